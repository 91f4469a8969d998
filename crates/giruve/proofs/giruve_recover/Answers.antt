-- `giruve::giruve_recover` meets its contract: the answer area's length, the model by its number, and then what `recover::recover` comes to. Assumes nothing.
use mathlib.Core.Path.{refl, ◌∙◌}
use Rattle.questions.specs.declared.Question.TheVariants as Question
use Rattle.recovered.specs.declared.Recovered.TheVariants.{Refused}
use Rattle.recover.specs.Recover.{refusal}
use Rattle.recovery_answer.specs.RecoveryAnswer.{recovery_answer_after}
use Rattle.giruve.specs.Model.{recover_call_by}
use Rattle.giruve.proofs.Model.{by_known, by_unknown}
use Rattle.giruve.proofs.Recover.{area_unfit, area_fits}
use Rattle.giruve.proofs.giruve_recover.Goals as goal

pub returns-then-answer-ne10 : goal.returns-then-answer-ne10
returns-then-answer-ne10 c =
    let a = c.args in
    let k = recover_call_by a.model a.chain.now a.report.now a.extent.now a.storage.now a.program.now a.restart_arguments.now in
    area_unfit _ _ _ _ k c.if-answer-ne10.true _ c.from.ensures

pub returns-in_default : goal.returns-in_default
unfolding recover_call_by refusal recovery_answer_after
returns-in_default c =
    let none = by_unknown _ c.try_from.result c.try_from.ensures _ _ _ c.in_default.is in
    area_fits _ _ _ _ _ c.if-answer-ne10.false (Refused Question.Areas) _ _ _ none _ _ c.from-in_default.ensures refl

pub returns : goal.returns
unfolding recover_call_by
returns c =
    let a = c.args in
    let is = by_known _ c.try_from.result c.try_from.ensures _ _ _ c.in-Ok.is in
    area_fits _ a.storage.now a.program.now a.restart_arguments.now _ c.if-answer-ne10.false c.recover-r.result _ _ _ (c.recover-r.ensures.after_after ∙ is) _ _ c.put.ensures.value c.put.ensures.answer_after
