-- A reading's answer as a number and 11 bytes: CSW 8, number of recoveries 2, the number that stopped it 1.
use Rattle.std.specs.Prelude.{ℕ, List, [], ◌∷◌, ◌++◌, Result, Ok, Err}
use Rattle.base.specs.Bytes.{two}
use Rattle.questions.specs.Number.{number_of, limit_return, stopped_return}
use Rattle.channel.specs.Csw.{csw_bytes}
use Rattle.reading_runs.specs.declared.How.{How}
use Rattle.reading_runs.specs.declared.How.TheVariants.{Ended, Limited, Stop}
use Rattle.reading_runs.specs.declared.Over.{Over}
use Rattle.questions.specs.declared.Question.{Question}

-- what the call returns: 0 ended, "limit" or "stopped"
abbrev pub how_number : How → ℕ
how_number Ended = 0
how_number Limited = limit_return
how_number (Stop n) = stopped_return

-- the number that stopped it; 0 where nothing did
abbrev pub stop_number : How → ℕ
stop_number Ended = 0
stop_number Limited = 0
stop_number (Stop n) = n

-- the refusing question's number, or how the reading ended
abbrev pub reading_return : Result Over Question → ℕ
reading_return (Err q) = number_of q
reading_return (Ok o) = how_number o.how

-- the CSW, the number of recoveries, and the number that stopped it
unfoldable pub over_bytes : Over → List ℕ
over_bytes o = csw_bytes o.csw ++ two o.made ++ stop_number o.how ∷ []

-- the answer area: "A no answers its number and changes nothing."
unfoldable pub reading_answer_after : List ℕ → Result Over Question → List ℕ
reading_answer_after a (Err q) = a
reading_answer_after a (Ok o) = over_bytes o
