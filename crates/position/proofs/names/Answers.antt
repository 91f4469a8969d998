-- `position::names` meets its contract: the definition, test by test. Assumes nothing.
use mathlib.Core.Path.{sym, ◌∙◌}
use Rattle.address.proofs.Order.{one, other}
use Rattle.position.proofs.Search.{names_other, names_number}
use Rattle.position.proofs.names.Goals as goal

pub returns-then-ne : goal.returns-then-ne
returns-then-ne c = names_other _ _ _ (other _ _ (sym c.ne.ensures ∙ c.if-ne.true))

pub returns : goal.returns
returns c = names_number _ _ _ (one _ _ (sym c.ne.ensures ∙ c.if-ne.false))
