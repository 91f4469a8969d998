-- `address::Extent::holds` meets its contract: the derived order is the one defined. Assumes nothing.
use mathlib.Core.Path.{sym, ◌∙◌}
use Rattle.address.specs.Within.{within}
use Rattle.address.proofs.Order.{less}
use Rattle.address.proofs.Extent.holds.Goals as goal

pub returns-then-lt : goal.returns-then-lt
unfolding within
returns-then-lt c = let a = c.args in rw (sym (less a.a a.self.first) ∙ sym c.lt.ensures ∙ c.if-lt.true)

pub returns : goal.returns
unfolding within
returns c = let a = c.args in rw (sym (less a.a a.self.first) ∙ sym c.lt.ensures ∙ c.if-lt.false, c.lt-2.ensures, less a.self.last a.a)
