-- A CSW and a refusal as text (document 01, the last paragraph under "Proved cases").
use Rattle.std.specs.Prelude.{ℕ, List, ◌++◌}
use Rattle.text.specs.Text.{ascii, number}
use Rattle.questions.specs.declared.Question.{Question}
use Rattle.questions.specs.Number.{number_of}
use Rattle.channel.specs.declared.Csw.{Csw}

-- "ending address, unit status, channel status and count left in hexadecimal", and the line's end
unfoldable pub csw_text : Csw → List ℕ
csw_text w = number 16 6 w.address ++ number 16 2 w.unit ++ number 16 2 w.channel ++ number 16 4 w.count ++ ascii "\n"

-- "'refused' and its number"
unfoldable pub refused_text : Question → List ℕ
refused_text q = ascii "refused" ++ number 10 1 (number_of q)
