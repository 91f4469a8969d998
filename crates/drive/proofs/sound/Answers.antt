-- `drive::sound` meets its contract by cases of the command. Assumes nothing.
use Rattle.drive.specs.Step.{sound}
use Rattle.drive.proofs.sound.Goals as goal

pub returns-in-NoOperation : goal.returns-in-NoOperation
unfolding sound
returns-in-NoOperation c = λ p e f. rw c.in-NoOperation.is c.formed.ensures

pub returns-in-Unlisted : goal.returns-in-Unlisted
unfolding sound
returns-in-Unlisted c = λ p e f. rw c.in-Unlisted.is c.formed-in-Unlisted.ensures

pub returns-in-Seek : goal.returns-in-Seek
unfolding sound
returns-in-Seek c = λ p e f. rw c.in-Seek.is (c.argument_sound.ensures p e f)

pub returns-in-SetMask : goal.returns-in-SetMask
unfolding sound
returns-in-SetMask c = λ p e f. rw c.in-SetMask.is (c.argument_sound-in-SetMask.ensures p e f)

pub returns-in-SetSector : goal.returns-in-SetSector
unfolding sound
returns-in-SetSector c = λ p e f. rw c.in-SetSector.is (c.argument_sound-in-SetSector.ensures p e f)

pub returns-in-SearchId : goal.returns-in-SearchId
unfolding sound
returns-in-SearchId c = λ p e f. rw c.in-SearchId.is (c.argument_sound-in-SearchId.ensures p e f)

pub returns-in-ReadHome : goal.returns-in-ReadHome
unfolding sound
returns-in-ReadHome c = λ p e f. rw c.in-ReadHome.is c.readable.ensures

pub returns-in-ReadRecord : goal.returns-in-ReadRecord
unfolding sound
returns-in-ReadRecord c = λ p e f. rw c.in-ReadRecord.is c.readable-in-ReadRecord.ensures

pub returns-in-SearchIdMultitrack : goal.returns-in-SearchIdMultitrack
unfolding sound
returns-in-SearchIdMultitrack c = λ p e f. rw c.in-SearchIdMultitrack.is (c.argument_sound-in-SearchIdMultitrack.ensures p e f)

pub returns-in-ReadMultitrack : goal.returns-in-ReadMultitrack
unfolding sound
returns-in-ReadMultitrack c = λ p e f. rw c.in-ReadMultitrack.is c.readable-in-ReadMultitrack.ensures
