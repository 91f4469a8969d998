-- `address::check_extent` meets its contract: each answer is a law of `extent_answer` at the tests that led there. Assumes nothing.
use mathlib.Core.Path.{sym, ◌∙◌}
use Rattle.address.proofs.ExtentAnswer.{extent_size, extent_sound, extent_off}
use Rattle.address.proofs.check_extent.Goals as goal

pub returns-then-s-ne8 : goal.returns-then-s-ne8
returns-then-s-ne8 c = extent_size _ _ c.if-s-ne8.true

pub returns-then-on_pack : goal.returns-then-on_pack
returns-then-on_pack c =
    extent_sound _ _ c.if-s-ne8.false _ c.extent_of.ensures (sym c.on_pack.ensures ∙ c.if-on_pack.true)

pub returns : goal.returns
returns c =
    extent_off _ _ c.if-s-ne8.false _ c.extent_of.ensures (sym c.on_pack.ensures ∙ c.if-on_pack.false)
