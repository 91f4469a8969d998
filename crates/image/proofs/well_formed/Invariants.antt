-- `image::well_formed` meets its contract. Invariant: the image is well formed if what is left is, behind the track passed.
-- Measure: the bytes left. Assumes nothing.
use Rattle.std.specs.Prelude.{None}
use Prim.Native.Nat.{◌-◌, ◌≤◌}
use mathlib.Core.Path.{◌≡◌}
use lib.ListN.{length}
use Rattle.address.specs.Model.{last_of}
use Rattle.image.specs.Image.{well_formed_from}
use Rattle.image.proofs.well_formed.Given as goal

abbrev pub invariant-loop-here : goal.invariant-loop-here
invariant-loop-here l = (well_formed_from (last_of l.m) None l.image 0 ≡ well_formed_from (last_of l.m) l.b l.image l.here) × (l.here ≤ length l.image)

abbrev pub decreases-loop-here : goal.decreases-loop-here
decreases-loop-here l = length l.image - l.here
