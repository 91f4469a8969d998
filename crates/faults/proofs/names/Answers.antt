-- `faults::names` meets its contract: each answer rewrites by the tests that led there. Assumes nothing.
use mathlib.Core.Path.{sym, ◌∙◌}
use Rattle.address.proofs.Order.{one, other}
use Rattle.faults.specs.FaultAt.{named}
use Rattle.faults.proofs.names.Goals as goal

pub returns-then-ne : goal.returns-then-ne
unfolding named
returns-then-ne c = rw (other _ _ (sym c.ne.ensures ∙ c.if-ne.true))

pub returns : goal.returns
unfolding named
returns c = rw (one _ _ (sym c.ne.ensures ∙ c.if-ne.false))
