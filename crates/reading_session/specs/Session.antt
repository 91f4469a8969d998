-- What the program prints for its input (document 01, the last paragraph under "Proved cases").
use Rattle.std.specs.Prelude.{ℕ, List, replicate, Err}
use Rattle.base.specs.Choice.{opt}
use Rattle.questions.specs.declared.Question.TheVariants as Question
use Rattle.address.specs.declared.Model.TheVariants.{One}
use Rattle.reading_runs.specs.Conclusion.{Conclusion, leaving}
use Rattle.whole_reading.specs.Reading.{reading_call}
use Rattle.reading_input.specs.Input.{Parts, parts_of}
use Rattle.reading_lines.specs.Lines.{answer_text}

-- The reading of the parts, from storage as lent: "limit 4,096"; "The program `reading` stays with model 1" (document 02). The restart areas and the list of recoveries begin as zeros.
unfoldable pub reading_of : Parts → List ℕ → Conclusion
reading_of p st = reading_call One p.chain p.arguments st p.image p.faults p.extent 4096 (replicate 64 0) (replicate 16 0) (replicate 24576 0)

-- What an input comes to: "more, or a bad 30 to 32, is refusal 1", else the reading of its parts.
unfoldable pub answered : List ℕ → List ℕ → Conclusion
answered s st =
    opt (parts_of s) (leaving (Err Question.Areas) st (replicate 64 0) (replicate 16 0) (replicate 24576 0)) (λ p. reading_of p st)

-- the lines of a conclusion
unfoldable pub shown : Conclusion → List ℕ
shown e = answer_text e.answer e.storage e.list

-- the lines for an input, with storage as lent
unfoldable pub text_of : List ℕ → List ℕ → List ℕ
text_of s st = shown (answered s st)

-- "with 4,096 zero bytes of storage": what the program prints
unfoldable pub printed : List ℕ → List ℕ
printed s = text_of s (replicate 4096 0)
