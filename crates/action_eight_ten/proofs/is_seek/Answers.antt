-- `action_eight_ten::is_seek` meets its contract: by the command. Assumes nothing.
use Rattle.recovery.specs.Recovery.{is_seek}
use Rattle.action_eight_ten.proofs.Tracks.{other_command}
use borrow.Enum.Refused.{opened}
use Rattle.action_eight_ten.proofs.is_seek.Goals as goal

pub returns-in-Seek : goal.returns-in-Seek
unfolding is_seek
returns-in-Seek c = rw c.in-Seek.is

pub returns-in_default : goal.returns-in_default
returns-in_default c = other_command _ (opened c.in_default.in_default-own.keys2)
