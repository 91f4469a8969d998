-- `moveless::perform` meets its contract by cases of the command; reads and multitrack commands are excluded. Assumes nothing.
use mathlib.Core.Path.{ap}
use Rattle.control.specs.Control.{argues}
use Rattle.control.proofs.Plans.{no_home, no_record, no_search_multitrack, no_read_multitrack, noop_performs, unlisted_performs}
use Rattle.moveless.proofs.perform.Goals as goal

pub seek-requires : goal.seek-requires
unfolding argues
seek-requires c = record { standing = c.requires.standing; low = c.requires.low; in_bytes = c.requires.in_bytes; argument_in = c.requires.argument_in (ap argues c.in-Seek.is) }

pub set_mask-requires : goal.set_mask-requires
unfolding argues
set_mask-requires c = record { standing = c.requires.standing; low = c.requires.low; in_bytes = c.requires.in_bytes; argument_in = c.requires.argument_in (ap argues c.in-SetMask.is) }

pub set_sector-requires : goal.set_sector-requires
unfolding argues
set_sector-requires c = record { standing = c.requires.standing; low = c.requires.low; in_bytes = c.requires.in_bytes; argument_in = c.requires.argument_in (ap argues c.in-SetSector.is) }

pub search-requires : goal.search-requires
unfolding argues
search-requires c = record { standing = c.requires.standing; low = c.requires.low; in_bytes = c.requires.in_bytes; argument_in = c.requires.argument_in (ap argues c.in-SearchId.is) }

pub returns-in-NoOperation : goal.returns-in-NoOperation
returns-in-NoOperation c = record { performs = λ p st e f. rw c.in-NoOperation.is (noop_performs _ _ _ c.no_operation.result _ _ _ c.no_operation.ensures.plans _ p st e f); kept = c.no_operation.ensures.kept }

pub returns-in-Seek : goal.returns-in-Seek
returns-in-Seek c = record { performs = λ p st e f. rw c.in-Seek.is (c.seek.ensures.performs p st e f); kept = c.seek.ensures.kept }

pub returns-in-SetMask : goal.returns-in-SetMask
returns-in-SetMask c = record { performs = λ p st e f. rw c.in-SetMask.is (c.set_mask.ensures.performs_always _ p st e f); kept = c.set_mask.ensures.kept }

pub returns-in-SetSector : goal.returns-in-SetSector
returns-in-SetSector c = record { performs = λ p st e f. rw c.in-SetSector.is (c.set_sector.ensures.performs_always _ p st e f); kept = c.set_sector.ensures.kept }

pub returns-in-SearchId : goal.returns-in-SearchId
returns-in-SearchId c = record { performs = λ p st e f. rw c.in-SearchId.is (c.search.ensures.performs_always _ p st e f); kept = c.search.ensures.kept }

pub returns-in-Unlisted : goal.returns-in-Unlisted
returns-in-Unlisted c = record { performs = λ p st e f. rw c.in-Unlisted.is (unlisted_performs _ _ _ c.refuse.result _ _ _ c.refuse.ensures.answers _ p st e f); kept = c.refuse.ensures.kept_always _ }

pub returns-in-ReadHome : goal.returns-in-ReadHome
returns-in-ReadHome c = record { performs = no_home (rw c.in-ReadHome.is at c.requires.k_value); kept = no_home (rw c.in-ReadHome.is at c.requires.k_value) }

pub returns-in-ReadRecord : goal.returns-in-ReadRecord
returns-in-ReadRecord c = record { performs = no_record _ (rw c.in-ReadRecord.is at c.requires.k_value); kept = no_record _ (rw c.in-ReadRecord.is at c.requires.k_value) }

pub returns-in-SearchIdMultitrack : goal.returns-in-SearchIdMultitrack
returns-in-SearchIdMultitrack c = record { performs = no_search_multitrack (rw c.in-SearchIdMultitrack.is at c.requires.k_value); kept = no_search_multitrack (rw c.in-SearchIdMultitrack.is at c.requires.k_value) }

pub returns-in-ReadMultitrack : goal.returns-in-ReadMultitrack
returns-in-ReadMultitrack c = record { performs = no_read_multitrack _ (rw c.in-ReadMultitrack.is at c.requires.k_value); kept = no_read_multitrack _ (rw c.in-ReadMultitrack.is at c.requires.k_value) }
