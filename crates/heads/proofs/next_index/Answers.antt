-- `heads::next_index` meets its contract: the home address behind the track is that of the next head, or the image has no such track.
-- Assumes nothing.
use native.Mathlib.Omega.{arith}
use Rattle.drive.specs.Step as Step
use Rattle.heads.proofs.Next.{next_found}
use Rattle.heads.proofs.next_index.Goals as goal

pub at_found-requires : goal.at_found-requires
at_found-requires c = record { sound = c.requires.standing.sound; cylinder_bound = (c.requires.standing.low.0, omega (arith, c.requires.head_bound)); track_found = next_found _ c.requires.standing.sound c.args.d.at c.requires.track_ends.0 c.requires.track_ends.1.there _ c.requires.track_ends.2 c.track_at.result c.track_at.ensures }

pub returns : goal.returns
unfolding Step.next_head
returns c = record { value = c.at_found.ensures.value; stands = c.at_found.ensures.standing }
