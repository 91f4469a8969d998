-- DEMAND 3 of the code: what a call of `whole_reading::read` answers and leaves, by its contract `Answers`, keeps demand 3
-- (Rattle.demand_three.specs.Demand), for every reading that document 01 lets begin.
use Rattle.std.specs.Prelude.{ℕ, ◌*◌, ◌≡◌, true, List, leb, length, Ok}
use Rattle.questions.specs.Areas.{restart_areas}
use Rattle.drive.specs.Step.{End}
use Rattle.demand_three.specs.Demand.{Lending, Begins, Provided, end_of, faulted_areas, LikeFaultless}
use Rattle.reading_runs.specs.declared.How.TheVariants.{Ended}
use Rattle.reading_runs.specs.Conclusion.{Conclusion, list_after, program_after, restart_arguments_after}
use Rattle.whole_reading.specs.Reading.{Answers}

-- the areas that a call is lent beside those of g: the restart areas, and a list with room for its recoveries
pub record Beside : Type 0 where
  pub program : List ℕ
  pub restart_arguments : List ℕ
  pub list : List ℕ

-- question 1 of these
pub record Lends (g : Lending) (b : Beside) : Type 0 where
  pub areas : restart_areas (length b.program) (length b.restart_arguments) ≡ true
  pub room : leb (g.limit * 6) (length b.list) ≡ true

-- What demand 3 says of a conclusion; the faultless run ends with e.
pub record Keeps (g : Lending) (e : End) (b : Beside) (c : Conclusion) : Type 0 where
  -- the reading as the definitions have it, with the recoveries that it makes and every restart that it builds: "no restart's own seek lies
  -- outside the extent"
  pub like : LikeFaultless g e
  -- it ends, neither as "limit" nor as "stopped", with the faultless run's address, unit and channel status and count left, but for the exception
  -- that `end_of` states; "the recoveries that the reading reports number the faulted data areas that this faultless run reads, one for each time"
  pub answer : c.answer ≡ Ok (record { csw = (end_of g e).csw; made = length (faulted_areas g); how = Ended })
  -- storage equals the faultless run's
  pub storage : c.storage ≡ e.storage
  -- the list names these recoveries, in order
  pub list : c.list ≡ list_after like.made b.list
  -- the last of these restarts remains in its areas
  pub program : c.program ≡ program_after like.built b.program
  pub restart_arguments : c.restart_arguments ≡ restart_arguments_after like.built b.restart_arguments

-- DEMAND 3 of every call: where the reading may begin and the provisos hold, the answer and the areas behind the call are the demanded ones.
abbrev pub CallKeepsDemandThree : Type 0
CallKeepsDemandThree =
    (g : Lending) (e : End) → Begins g → Provided g e → (b : Beside) → Lends g b → (c : Conclusion)
    → Answers g.model g.chain g.arguments g.storage g.image g.fault_list g.extent g.limit b.program b.restart_arguments b.list c
    → Keeps g e b c
