-- `recovered::reads_data` meets its contract: by the command. Assumes nothing.
use Rattle.recovery.specs.Recovery.{reads_data}
use Rattle.recovered.proofs.Checks.{no_data}
use borrow.Enum.Refused.{opened}
use Rattle.recovered.proofs.reads_data.Goals as goal

pub returns-in-ReadRecord : goal.returns-in-ReadRecord
unfolding reads_data
returns-in-ReadRecord c = rw c.in-ReadRecord.is

pub returns-in-ReadMultitrack : goal.returns-in-ReadMultitrack
unfolding reads_data
returns-in-ReadMultitrack c = rw c.in-ReadMultitrack.is

pub returns-in_default : goal.returns-in_default
returns-in_default c = no_data _ (opened c.in_default.in_default-own.keys3)
