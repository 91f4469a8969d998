-- `questions::restart_areas` meets its contract: each answer rewrites by the tests that led there. Assumes nothing.
use mathlib.Core.Path.{sym, ◌∙◌}
use Rattle.questions.specs.Areas.{restart_areas}
use Rattle.questions.proofs.restart_areas.Goals as goal

pub returns-then-not-program_fits : goal.returns-then-not-program_fits
unfolding restart_areas
returns-then-not-program_fits c = rw (sym c.program_fits.ensures ∙ c.if-not-program_fits.true)

pub returns : goal.returns
unfolding restart_areas
returns c = rw (sym c.program_fits.ensures ∙ c.if-not-program_fits.false, c.restart_arguments_fit.ensures)
