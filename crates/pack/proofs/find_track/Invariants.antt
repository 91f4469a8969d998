-- `pack::find_track` meets its contract. Invariant: in an image that decodes, the track is to be found from here on as from the front.
-- Measure: the bytes left. Assumes nothing.
use Rattle.std.specs.Prelude.{Some}
use Prim.Native.Nat.{◌-◌, ◌≤◌}
use mathlib.Core.Path.{◌≡◌}
use lib.ListN.{length}
use Rattle.pack.specs.Pack.{Decoded, decode_at}
use Rattle.pack.proofs.Lookup.{TrackOn}
use Rattle.pack.proofs.find_track.Given as goal

abbrev pub invariant-loop-f : goal.invariant-loop-f
invariant-loop-f l = ((d : Decoded) → decode_at l.image 0 ≡ Some d → TrackOn l.image d l.a l.here) × (l.here ≤ length l.image)

abbrev pub decreases-loop-f : goal.decreases-loop-f
decreases-loop-f l = length l.image - l.here
