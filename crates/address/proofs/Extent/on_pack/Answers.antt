-- `address::Extent::on_pack` meets its contract: each answer rewrites by the tests that led there. Assumes nothing.
use Rattle.address.specs.Within.{sound_extent}
use mathlib.Core.Path.{sym, ◌∙◌}
use Rattle.address.proofs.Order.{less}
use Rattle.address.proofs.Extent.on_pack.Goals as goal

pub returns-then-not-on_pack : goal.returns-then-not-on_pack
unfolding sound_extent
returns-then-not-on_pack c = rw (sym c.on_pack.ensures ∙ c.if-not-on_pack.true)

pub returns-then-not-on_pack-2 : goal.returns-then-not-on_pack-2
unfolding sound_extent
returns-then-not-on_pack-2 c =
    rw (
      sym c.on_pack.ensures ∙ c.if-not-on_pack.false,
      sym c.on_pack-2.ensures ∙ c.if-not-on_pack-2.true,
    )

pub returns : goal.returns
unfolding sound_extent
returns c =
    rw (
      sym c.on_pack.ensures ∙ c.if-not-on_pack.false,
      sym c.on_pack-2.ensures ∙ c.if-not-on_pack-2.false,
      c.lt.ensures,
      less c.args.self.last c.args.self.first,
    )
