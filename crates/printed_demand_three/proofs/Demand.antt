-- DEMAND 3 of the program: `printed_keeps_demand_three`, from that of the call which it makes.
use Prim.Native.Nat.{ℕ}
use mathlib.Core.Path.{◌≡◌, refl, ◌∙◌}
use mathlib.Core.List.{List, ◌++◌}
use lib.ListN.{replicate}
use Rattle.base.specs.Choice.{opt}
use Rattle.questions.specs.Areas.{restart_areas}
use Rattle.drive.specs.Step.{End}
use Rattle.demand_three.specs.Demand.{Lending, end_of}
use Rattle.reading_runs.specs.declared.How.TheVariants.{Ended}
use Rattle.reading_runs.specs.Conclusion.{Conclusion}
use Rattle.whole_reading.specs.Reading.{reading_call}
use Rattle.call_demand_three.specs.Demand.{Beside, Lends, Keeps}
use Rattle.call_demand_three.proofs.Demand.{length_made, call_keeps_demand_three}
use Rattle.reading_lines.specs.Lines.{end_line, storage_line, answer_text}
use Rattle.reading_lines.specs.Entries.{entry_lines}
use Rattle.reading_lines.proofs.Entries.{lines_of_log}
use Rattle.reading_session.specs.Session.{reading_of, answered, shown, text_of, printed}
use Rattle.printed_demand_three.specs.Demand.{InputOf, PrintedKeepsDemandThree}

-- what the program lends beside its storage and the parts of its input
abbrev zeros : Beside
zeros = record { program = replicate 64 0; restart_arguments = replicate 16 0; list = replicate 24576 0 }

-- the lines of a conclusion that keeps demand 3
kept_lines : {g : Lending} {e : End} {b : Beside} (c : Conclusion) (k : Keeps g e b c)
    → shown c ≡ entry_lines k.like.made ++ end_line Ended (end_of g e).csw ++ storage_line e.storage
unfolding shown answer_text
kept_lines {g} {e} {b} c k = rw (k.answer, k.storage, k.list, ← length_made k.like, lines_of_log k.like.made b.list)

module _ {g : Lending} {s : List ℕ} (i : InputOf g s) where
  zeros_lent : Lends g zeros
  unfolding restart_areas
  zeros_lent = record { areas = refl; room = rw i.limit refl }

  -- the program prints the lines of the call's conclusion
  called : printed s
      ≡ shown (reading_call g.model g.chain g.arguments g.storage g.image g.fault_list g.extent g.limit zeros.program zeros.restart_arguments zeros.list)
  unfolding printed text_of answered reading_of opt
  called = rw (i.parts, i.storage, i.limit, i.model)

pub printed_keeps_demand_three : PrintedKeepsDemandThree
printed_keeps_demand_three s g e i begins provided =
    let call = call_keeps_demand_three g e begins provided zeros (zeros_lent i) _ refl in
    record { like = call.like; lines = called i ∙ kept_lines _ call }
