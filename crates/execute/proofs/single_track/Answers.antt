-- `execute::single_track` meets its contract: by the command. Assumes nothing.
use Rattle.execute.specs.Executes.{single_track}
use Rattle.execute.proofs.Commands.{other_single}
use borrow.Enum.Refused.{opened}
use Rattle.execute.proofs.single_track.Goals as goal

pub returns-in-SearchIdMultitrack : goal.returns-in-SearchIdMultitrack
unfolding single_track
returns-in-SearchIdMultitrack c = rw c.in-SearchIdMultitrack.is

pub returns-in-ReadMultitrack : goal.returns-in-ReadMultitrack
unfolding single_track
returns-in-ReadMultitrack c = rw c.in-ReadMultitrack.is

pub returns-in_default : goal.returns-in_default
returns-in_default c = other_single _ (opened c.in_default.in_default-own.keys3)
