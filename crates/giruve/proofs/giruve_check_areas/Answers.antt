-- `giruve::giruve_check_areas` meets its contract: each answer is a law of question 1. Assumes nothing.
use mathlib.Core.Path.{ap, sym, ◌∙◌}
use Rattle.questions.specs.Number.{answer_of}
use Rattle.giruve.proofs.Areas.{run_fits, run_unfit}
use Rattle.giruve.proofs.giruve_check_areas.Goals as goal

pub returns-then-run_areas : goal.returns-then-run_areas
returns-then-run_areas c = c.answer.ensures ∙ ap answer_of (run_fits _ _ _ _ _ _ (sym c.run_areas.ensures ∙ c.if-run_areas.true))

pub returns : goal.returns
returns c = c.answer-2.ensures ∙ ap answer_of (run_unfit _ _ _ _ _ _ (sym c.run_areas.ensures ∙ c.if-run_areas.false))
