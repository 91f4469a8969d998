-- `giruve::giruve_check_restart_areas` meets its contract: each answer is a law of question 1. Assumes nothing.
use mathlib.Core.Path.{ap, sym, ◌∙◌}
use Rattle.questions.specs.Number.{answer_of}
use Rattle.giruve.proofs.Areas.{restart_fits, restart_unfit}
use Rattle.giruve.proofs.giruve_check_restart_areas.Goals as goal

pub returns-then-restart_areas : goal.returns-then-restart_areas
returns-then-restart_areas c = c.answer.ensures ∙ ap answer_of (restart_fits _ _ (sym c.restart_areas.ensures ∙ c.if-restart_areas.true))

pub returns : goal.returns
returns c = c.answer-2.ensures ∙ ap answer_of (restart_unfit _ _ (sym c.restart_areas.ensures ∙ c.if-restart_areas.false))
