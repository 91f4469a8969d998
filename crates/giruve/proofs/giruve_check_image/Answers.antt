-- `giruve::giruve_check_image` meets its contract: the model by its number, and then the answer of the call that it stands for, as a number. Assumes nothing.
use mathlib.Core.Path.{ap, ◌∙◌}
use Rattle.questions.specs.Number.{answer_of}
use Rattle.giruve.specs.Model.{image_answer_by}
use Rattle.giruve.proofs.Model.{by_known, by_unknown}
use Rattle.giruve.proofs.giruve_check_image.Goals as goal

pub returns-in_default : goal.returns-in_default
unfolding image_answer_by
returns-in_default c =
    c.from.ensures ∙ ap answer_of (by_unknown _ c.try_from.result c.try_from.ensures _ _ _ c.in_default.is)

pub returns : goal.returns
unfolding image_answer_by
returns c =
    c.answer.ensures ∙ ap answer_of (c.check_image.ensures ∙ by_known _ c.try_from.result c.try_from.ensures _ _ _ c.in-Ok.is)
