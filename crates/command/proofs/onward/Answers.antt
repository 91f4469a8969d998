-- `command::onward` meets its contract: whether the CCW chains commands decides. Assumes nothing.
use mathlib.Core.Path.{sym, ◌∙◌}
use Rattle.base.specs.Choice.{pick}
use Rattle.drive.specs.Step as Step
use Rattle.command.proofs.onward.Goals as goal

pub returns-then-chains_command : goal.returns-then-chains_command
unfolding Step.onward pick
returns-then-chains_command c = record { answers = λ st. rw (sym c.chains_command.ensures ∙ c.if-chains_command.true); kept_with = λ image s. (s, record { last_low = c.requires.low; left_low = c.requires.left_bound }) }

pub returns : goal.returns
unfolding Step.onward pick
returns c = record { answers = λ st. rw (sym c.chains_command.ensures ∙ c.if-chains_command.false, c.csw_at.ensures.value); kept_with = λ image s. c.csw_at.ensures.csw_low }
