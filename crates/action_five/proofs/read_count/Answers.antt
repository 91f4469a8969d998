-- `action_five::read_count` meets its contract: by bit 3, then by the two codes. Assumes nothing.
use mathlib.Core.Path.{sym, ◌∙◌}
use borrow.Author.Tests.{ne_eqb}
use Rattle.base.specs.Choice.{pick}
use Rattle.base.specs.Bits.{bit_on}
use Rattle.restart.specs.Restart.{is_multitrack_data, count_for}
use Rattle.action_five.proofs.read_count.Goals as goal

pub returns-then-bit : goal.returns-then-bit
unfolding count_for pick
returns-then-bit c = rw (sym c.bit.ensures ∙ c.if-bit.true)

pub returns-in-134 : goal.returns-in-134
unfolding count_for is_multitrack_data bit_on pick
returns-in-134 c = rw c.in-134.is

pub returns-in-142 : goal.returns-in-142
unfolding count_for is_multitrack_data bit_on pick
returns-in-142 c = rw c.in-142.is

pub returns-in_default : goal.returns-in_default
unfolding count_for is_multitrack_data pick
returns-in_default c =
    rw (sym c.bit.ensures ∙ c.if-bit.false, ne_eqb _ _ c.in_default.in_default-own.rest.0.1, ne_eqb _ _ c.in_default.in_default-own.rest.1)
