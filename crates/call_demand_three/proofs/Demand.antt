-- DEMAND 3 of the code.
--   length_made               the recoveries are as many as the faulted data areas
--   call_keeps_demand_three   the theorem
use Rattle.std.specs.Prelude.{Ok}
use Prim.Native.Nat.{ℕ}
use mathlib.Core.Path.{◌≡◌, ap, sym, ◌∙◌}
use mathlib.Core.Bool.{true}
use lib.Dec.{eqb}
use lib.ListN.{length, length-map}
use borrow.Author.Tests.{eq-eqb}
use Rattle.base.specs.Choice.{pick, opt}
use Rattle.address.specs.Within.{extent_of}
use Rattle.drive.specs.Step.{End}
use Rattle.recovery.specs.Table.{rows}
use Rattle.demand_three.specs.WholeReading.{Whole, whole_reading, final}
use Rattle.demand_three.specs.Demand.{Lending, setting_of, Begins, end_of, recovered, faulted_areas, LikeFaultless}
use Rattle.demand_three.proofs.DemandThree.{demand_three}
use Rattle.demand_three.proofs.Exception.{same_but_for_the_count}
use Rattle.reading_runs.specs.declared.How.TheVariants.{Ended}
use Rattle.reading_runs.specs.Conclusion.{Conclusion, over, concluded}
use Rattle.whole_reading.specs.Reading.{reading_areas, reading_call}
use Rattle.call_demand_three.specs.Demand.{Beside, Lends, CallKeepsDemandThree}

pub length_made : {g : Lending} {e : End} (like : LikeFaultless g e) → length like.made ≡ length (faulted_areas g)
length_made like = sym (length-map like.made recovered) ∙ ap length like.same_areas

module _ (g : Lending) (b : Beside) (begins : Begins g) (lends : Lends g b) where
  -- no question is answered with no
  begun : reading_call g.model g.chain g.arguments g.storage g.image g.fault_list g.extent g.limit b.program b.restart_arguments b.list
      ≡ concluded (whole_reading g.faults (setting_of g) rows (extent_of g.model g.extent) g.limit g.storage) b.program b.restart_arguments b.list
  unfolding reading_call reading_areas pick opt setting_of
  begun =
      let full : eqb (length g.extent) 8 ≡ true = eq-eqb _ _ begins.extent.0 in
      rw (begins.areas, full, lends.areas, lends.room, begins.image, begins.listed, begins.faults, begins.extent.1)

pub call_keeps_demand_three : CallKeepsDemandThree
unfolding concluded over final
call_keeps_demand_three g e begins provided b lends c answers =
    let like : LikeFaultless g e = demand_three g e begins provided in
    let is =
    answers ∙ begun g b begins lends ∙ ap (λ (q : Whole). concluded q b.program b.restart_arguments b.list) like.same_end in
    record {
      like = like;
      answer = ap (λ (k : Conclusion). k.answer) is ∙ ap (λ (n : ℕ). Ok (record { csw = (end_of g e).csw; made = n; how = Ended })) (length_made like);
      storage = ap (λ (k : Conclusion). k.storage) is ∙ (same_but_for_the_count g e begins provided).same_storage;
      list = ap (λ (k : Conclusion). k.list) is;
      program = ap (λ (k : Conclusion). k.program) is;
      restart_arguments = ap (λ (k : Conclusion). k.restart_arguments) is;
    }
