-- What a reading ends with, and every area that it may write (document 01, "Bounds of the work").
use Rattle.std.specs.Prelude.{ℕ, ◌*◌, ◌<◌, ◌≤◌, List, [], ◌∷◌, ◌++◌, length, drop, Result, Ok, Err}
use Rattle.abstract_machine.specs.Reading.{Log, ends, limited, exhausted, stops}
use Rattle.channel.specs.declared.Csw.{Csw}
use Rattle.location.specs.Low.{CswLow}
use Rattle.demand_three.specs.WholeReading.{Entry, Restarted, Whole}
use Rattle.reading_cut.specs.Entry.{entry_bytes, stopped_number}
use Rattle.reading_runs.specs.declared.How.{How}
use Rattle.reading_runs.specs.declared.How.TheVariants.{Ended, Limited, Stop}
use Rattle.reading_runs.specs.declared.Over as Code
use Rattle.reading_runs.specs.declared.Over.{Over}
use Rattle.questions.specs.declared.Question.{Question}

-- ---- the areas behind a reading

-- the recoveries in the list, in order
unfoldable pub entries_bytes : List Entry → List ℕ
entries_bytes [] = []
entries_bytes (t ∷ ts) = entry_bytes t ++ entries_bytes ts

-- The list: behind the recoveries stand the bytes that it had.
unfoldable pub list_after : List Entry → List ℕ → List ℕ
list_after made l = entries_bytes made ++ drop (length made * 6) l

-- "The last restart built remains in its areas." Where none was built they keep their bytes.
unfoldable pub program_after : List Restarted → List ℕ → List ℕ
program_after [] p = p
program_after (r ∷ rs) p = program_after rs r.program

-- the same for the restart arguments
unfoldable pub restart_arguments_after : List Restarted → List ℕ → List ℕ
restart_arguments_after [] a = a
restart_arguments_after (r ∷ rs) a = restart_arguments_after rs r.restart_arguments

-- ---- what it answers

-- An answer, and the areas behind it.
pub record Conclusion : Type 0 where
  pub answer : Result Over Question
  pub storage : List ℕ
  pub program : List ℕ
  pub restart_arguments : List ℕ
  pub list : List ℕ

-- the same, from its parts
abbrev pub leaving : Result Over Question → (storage program restart_arguments list : List ℕ) → Conclusion
leaving o st p a l = record { answer = o; storage = st; program = p; restart_arguments = a; list = l }

-- How it ended, with a CSW and storage, after the recoveries of a log.
unfoldable pub over : Log Entry Restarted → How → Csw → (storage program restart_arguments list : List ℕ) → Conclusion
over g h w st p a l =
    leaving (Ok (record { csw = w; made = length g.made; how = h })) st (program_after g.built p) (restart_arguments_after g.built a) (list_after g.made l)

-- "Any other end of a run is its end"; "limit" of a run "with its last CSW", or of a cut too many "with that cut's CSW"; "stopped" with
-- "the cut's CSW"; each with "storage as the reads left it".
unfoldable pub concluded : Whole → (program restart_arguments list : List ℕ) → Conclusion
concluded (ends g f) p a l = over g Ended f.csw f.storage p a l
concluded (limited g m) p a l = over g Limited m.csw m.storage p a l
concluded (exhausted g k) p a l = over g Limited k.csw k.storage p a l
concluded (stops g n k) p a l = over g (Stop (stopped_number n)) k.csw k.storage p a l

-- ---- what its numbers fit

-- there are no more recoveries than the limit allows
abbrev pub MadeWithin : ℕ → Result Over Question → Type 0
MadeWithin n (Err q) = Unit {0}
MadeWithin n (Ok o) = o.made ≤ n

-- what a reading ends with fits its bytes
pub record OverLow (o : Code.Over) : Type 0 where
  pub csw_low : CswLow o.csw
  pub made_low : o.made < 0x10000

-- the same of an answer that is no refusal
abbrev pub OutcomeLow : Result Over Question → Type 0
OutcomeLow (Err q) = Unit {0}
OutcomeLow (Ok o) = OverLow o
