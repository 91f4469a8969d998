-- `explain_names::command_index` meets its contract. Assumes nothing.
use Prim.Native.Nat.{◌+◌}
use mathlib.Core.Path.{ap}
use Rattle.explain_names.specs.Names.{command_index}
use Rattle.explain_names.proofs.command_index.Goals as goal

pub returns-in-NoOperation : goal.returns-in-NoOperation
unfolding command_index
returns-in-NoOperation c = rw c.in-NoOperation.is

pub returns-in-Seek : goal.returns-in-Seek
unfolding command_index
returns-in-Seek c = rw c.in-Seek.is

pub returns-in-SetMask : goal.returns-in-SetMask
unfolding command_index
returns-in-SetMask c = rw c.in-SetMask.is

pub returns-in-SetSector : goal.returns-in-SetSector
unfolding command_index
returns-in-SetSector c = rw c.in-SetSector.is

pub returns-in-SearchId : goal.returns-in-SearchId
unfolding command_index
returns-in-SearchId c = rw c.in-SearchId.is

pub returns-in-ReadHome : goal.returns-in-ReadHome
unfolding command_index
returns-in-ReadHome c = rw c.in-ReadHome.is

pub returns-in-Unlisted : goal.returns-in-Unlisted
unfolding command_index
returns-in-Unlisted c = rw c.in-Unlisted.is

pub returns-in-ReadRecord : goal.returns-in-ReadRecord
unfolding command_index
returns-in-ReadRecord c = rw c.in-ReadRecord.is c.read_index.ensures.value

pub returns-in-SearchIdMultitrack : goal.returns-in-SearchIdMultitrack
unfolding command_index
returns-in-SearchIdMultitrack c = rw c.in-SearchIdMultitrack.is

pub returns-in-ReadMultitrack : goal.returns-in-ReadMultitrack
unfolding command_index
returns-in-ReadMultitrack c = rw c.in-ReadMultitrack.is (ap (λ n. n + 5) c.read_index-in-ReadMultitrack.ensures.value)
