-- `overflow_restart::moved_on` meets its contract: by skip. Assumes nothing.
use mathlib.Core.Path.{sym, ◌∙◌}
use Rattle.base.proofs.Choice.{pick_true, pick_false}
use Rattle.overflow_restart.proofs.moved_on.Goals as goal

pub returns-then-skips : goal.returns-then-skips
returns-then-skips c = sym (pick_true _ _ (sym c.skips.ensures ∙ c.if-skips.true))

pub returns : goal.returns
returns c = sym (pick_false _ _ (sym c.skips.ensures ∙ c.if-skips.false))
