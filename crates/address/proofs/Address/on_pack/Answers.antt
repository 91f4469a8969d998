-- `address::Address::on_pack` meets its contract: each answer rewrites by the tests that led there. Assumes nothing.
use mathlib.Core.Path.{sym}
use borrow.Author.Tests.{le-leb, lt-leb}
use Rattle.address.specs.Order.{on_pack}
use Rattle.address.proofs.Address.on_pack.Goals as goal

pub returns-then-last_cylinder-self : goal.returns-then-last_cylinder-self
unfolding on_pack
returns-then-last_cylinder-self c = rw (sym c.last_cylinder.ensures, lt-leb _ _ c.if-last_cylinder-self.true)

pub returns : goal.returns
unfolding on_pack
returns c = rw (sym c.last_cylinder.ensures, le-leb _ _ c.if-last_cylinder-self.false)
