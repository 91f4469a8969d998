-- DEMAND 3 of the call for C: `giruve_reading_keeps_demand_three`, from that of the call which it hands out.
use Rattle.std.specs.Prelude.{Some}
use Prim.Native.Nat.{ℕ}
use mathlib.Core.Path.{◌≡◌, refl, ap, ◌∙◌}
use mathlib.Core.List.{List}
use lib.ListN.{length}
use borrow.Author.Tests.{eq-eqb}
use Rattle.base.specs.Choice.{opt}
use Rattle.base.proofs.Choice.{pick_true}
use Rattle.address.specs.declared.Model.{Model}
use Rattle.address.specs.Model.{model_of}
use Rattle.whole_reading.specs.Reading.{reading_call}
use Rattle.call_demand_three.proofs.Demand.{call_keeps_demand_three}
use Rattle.reading_answer.specs.ReadingAnswer.{reading_return, over_bytes, reading_answer_after}
use Rattle.giruve.specs.Model.{reading_call_by}
use Rattle.giruve.specs.Reading.{ReadingHanded, concluded_handing, reading_handed}
use Rattle.c_demand_three.specs.Demand.{GiruveReadingKeepsDemandThree}

-- by the number of a model it is the call on that model
called_by : (model : ℕ) (m : Model) (chain arguments st image faults extent : List ℕ) (n : ℕ) (p a l : List ℕ) → model_of model ≡ Some m
    → reading_call_by model chain arguments st image faults extent n p a l ≡ reading_call m chain arguments st image faults extent n p a l
unfolding reading_call_by opt
called_by model m chain arguments st image faults extent n p a l known = rw known

pub giruve_reading_keeps_demand_three : GiruveReadingKeepsDemandThree
unfolding reading_handed reading_answer_after over_bytes
giruve_reading_keeps_demand_three g e begins provided b lends answer full model known h out =
    let call = call_keeps_demand_three g e begins provided b lends _ refl in
    let is =
    out ∙ pick_true _ _ (eq-eqb (length answer) 11 full)
    ∙ ap (concluded_handing answer) (called_by model g.model _ _ _ _ _ _ _ _ _ _ known) in
    record {
      like = call.like;
      number = ap (λ (k : ReadingHanded). k.number) is ∙ ap reading_return call.answer;
      answer = ap (λ (k : ReadingHanded). k.answer) is ∙ ap (reading_answer_after answer) call.answer;
      storage = ap (λ (k : ReadingHanded). k.storage) is ∙ call.storage;
      list = ap (λ (k : ReadingHanded). k.list) is ∙ call.list;
      program = ap (λ (k : ReadingHanded). k.program) is ∙ call.program;
      restart_arguments = ap (λ (k : ReadingHanded). k.restart_arguments) is ∙ call.restart_arguments;
    }
