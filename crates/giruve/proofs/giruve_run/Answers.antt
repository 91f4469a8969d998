-- `giruve::giruve_run` meets its contract: the answer area's length, the model by its number, and then what `trial::run` comes to. Assumes nothing.
use Rattle.std.specs.Prelude.{Err}
use mathlib.Core.Path.{◌∙◌}
use Rattle.questions.specs.declared.Question.TheVariants as Question
use Rattle.trial.specs.Trial.{refusal}
use Rattle.giruve.specs.Model.{run_call_by}
use Rattle.giruve.proofs.Model.{by_known, by_unknown}
use Rattle.giruve.proofs.Run.{refused_so, unfit, fits}
use Rattle.giruve.proofs.giruve_run.Goals as goal

pub returns-then-answer-ne-ANSWER_LENGTH : goal.returns-then-answer-ne-ANSWER_LENGTH
returns-then-answer-ne-ANSWER_LENGTH c = unfit _ _ _ c.if-answer-ne-ANSWER_LENGTH.true _ c.from.ensures

pub returns-in_default : goal.returns-in_default
unfolding run_call_by refusal
returns-in_default c =
    let none = by_unknown _ c.try_from.result c.try_from.ensures _ _ _ c.in_default.is in
    fits _ _ _ c.if-answer-ne-ANSWER_LENGTH.false (Err Question.Areas) _ none _ _ (refused_so _ _ _ c.from-in_default.ensures)

pub returns : goal.returns
unfolding run_call_by
returns c =
    let is = by_known _ c.try_from.result c.try_from.ensures _ _ _ c.in-Ok.is in
    fits _ _ _ c.if-answer-ne-ANSWER_LENGTH.false c.run-t.result _ (c.run-t.ensures.storage_after ∙ is) _ _ c.hand_out.ensures
