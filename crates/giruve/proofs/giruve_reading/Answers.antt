-- `giruve::giruve_reading` meets its contract: the answer area's length, the model by its number, and then what `whole_reading::read` comes to.
-- Assumes nothing.
use Rattle.std.specs.Prelude.{Err}
use mathlib.Core.Path.{refl, ◌∙◌}
use Rattle.questions.specs.declared.Question.TheVariants as Question
use Rattle.reading_answer.specs.ReadingAnswer.{reading_answer_after}
use Rattle.giruve.specs.Model.{reading_call_by}
use Rattle.giruve.proofs.Model.{by_known, by_unknown}
use Rattle.giruve.proofs.Reading.{reading_unfit, reading_fits}
use Rattle.giruve.proofs.giruve_reading.Goals as goal

pub returns-then-answer-ne11 : goal.returns-then-answer-ne11
returns-then-answer-ne11 c =
    let a = c.args in
    reading_unfit a.model a.chain.now a.arguments.now a.storage.now a.image.now a.faults.now a.extent.now a.limit a.program.now a.restart_arguments.now a.list.now a.answer.now c.if-answer-ne11.true _ c.from.ensures

pub returns-in_default : goal.returns-in_default
unfolding reading_call_by reading_answer_after
returns-in_default c =
    let a = c.args in
    let none = by_unknown _ c.try_from.result c.try_from.ensures _ _ _ c.in_default.is in
    reading_fits a.model a.chain.now a.arguments.now a.storage.now a.image.now a.faults.now a.extent.now a.limit a.program.now a.restart_arguments.now a.list.now a.answer.now c.if-answer-ne11.false (Err Question.Areas) _ _ _ _ none _ _ c.from-in_default.ensures refl

pub returns : goal.returns
unfolding reading_call_by
returns c =
    let a = c.args in
    let is = by_known _ c.try_from.result c.try_from.ensures _ _ _ c.in-Ok.is in
    reading_fits a.model a.chain.now a.arguments.now a.storage.now a.image.now a.faults.now a.extent.now a.limit a.program.now a.restart_arguments.now a.list.now a.answer.now c.if-answer-ne11.false c.read-o.result _ _ _ _ (c.read-o.ensures.answers ∙ is) c.put.result _ c.put.ensures.value c.put.ensures.answer_after
