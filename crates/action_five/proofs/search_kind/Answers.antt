-- `action_five::search_kind` meets its contract: by bit 3. Assumes nothing.
use mathlib.Core.Path.{sym, ◌∙◌}
use Rattle.base.specs.Choice.{pick}
use Rattle.action_five.specs.Five.{search_kind}
use Rattle.action_five.proofs.search_kind.Goals as goal

pub returns-then-bit : goal.returns-then-bit
unfolding search_kind pick
returns-then-bit c = rw (sym c.bit.ensures ∙ c.if-bit.true)

pub returns : goal.returns
unfolding search_kind pick
returns c = rw (sym c.bit.ensures ∙ c.if-bit.false)
