-- `recovered::seek_allowed` meets its contract: the pack, then the extent. Assumes nothing.
use mathlib.Core.Path.{◌≡◌, sym, ◌∙◌}
use mathlib.Core.Bool.{true, false}
use Rattle.address.specs.Model.{last_of}
use Rattle.address.specs.Order.{on_pack}
use Rattle.recovered.proofs.seek_allowed.Goals as goal

pub returns-then-not-on_pack : goal.returns-then-not-on_pack
returns-then-not-on_pack c =
    let a = c.args in
    let off : on_pack (last_of a.x.model) a.a ≡ false = sym c.on_pack.ensures ∙ c.if-not-on_pack.true in
    rw off

pub returns : goal.returns
returns c =
    let a = c.args in
    let on : on_pack (last_of a.x.model) a.a ≡ true = sym c.on_pack.ensures ∙ c.if-not-on_pack.false in
    rw (on, c.holds.ensures)
