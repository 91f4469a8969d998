-- DEMAND 3 of the call for C: what `giruve_reading` returns and leaves, by its contract `ReadingHandsOut`, keeps demand 3
-- (Rattle.demand_three.specs.Demand), for every reading that document 01 lets begin, the number of its model and every answer area of 11 bytes.
use Rattle.std.specs.Prelude.{ℕ, ◌≡◌, List, [], ◌∷◌, ◌++◌, length, Some}
use Rattle.base.specs.Bytes.{two}
use Rattle.address.specs.Model.{model_of}
use Rattle.channel.specs.Csw.{csw_bytes}
use Rattle.drive.specs.Step.{End}
use Rattle.demand_three.specs.Demand.{Lending, Begins, Provided, end_of, faulted_areas, LikeFaultless}
use Rattle.reading_runs.specs.Conclusion.{list_after, program_after, restart_arguments_after}
use Rattle.call_demand_three.specs.Demand.{Beside, Lends}
use Rattle.giruve.specs.Reading.{ReadingHanded, ReadingHandsOut}

-- What demand 3 says of what is handed out; the faultless run ends with e.
pub record HandedLikeFaultless (g : Lending) (e : End) (b : Beside) (h : ReadingHanded) : Type 0 where
  -- the reading as the definitions have it: the recoveries that it makes are the faulted data areas that the faultless run reads, in order; of
  -- the restarts that it builds "no restart's own seek lies outside the extent"
  pub like : LikeFaultless g e
  -- "the whole reading ends, neither as 'limit' nor as 'stopped'": 0 is returned
  pub number : h.number ≡ 0
  -- "ending address, unit and channel status and remaining count equal those of the faultless run": its CSW, but for the exception that `end_of`
  -- states; "the recoveries that the reading reports number the faulted data areas that this faultless run reads, one for each time": two bytes;
  -- nothing stopped it: 0
  pub answer : h.answer ≡ csw_bytes (end_of g e).csw ++ two (length (faulted_areas g)) ++ 0 ∷ []
  -- "storage" equals that of the faultless run too
  pub storage : h.storage ≡ e.storage
  -- the list names these recoveries, in order; behind them it is as lent
  pub list : h.list ≡ list_after like.made b.list
  -- "The last restart built remains in its areas."
  pub program : h.program ≡ program_after like.built b.program
  pub restart_arguments : h.restart_arguments ≡ restart_arguments_after like.built b.restart_arguments

-- DEMAND 3 of every call of `giruve_reading`: where the reading may begin and the provisos hold, it hands out what demand 3 asks for.
abbrev pub GiruveReadingKeepsDemandThree : Type 0
GiruveReadingKeepsDemandThree =
    (g : Lending) (e : End) → Begins g → Provided g e → (b : Beside) → Lends g b → (answer : List ℕ) → length answer ≡ 11
    → (model : ℕ) → model_of model ≡ Some g.model → (h : ReadingHanded)
    → ReadingHandsOut model g.chain g.arguments g.storage g.image g.fault_list g.extent g.limit b.program b.restart_arguments b.list
    answer h
    → HandedLikeFaultless g e b h
