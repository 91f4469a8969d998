-- `faults::sound_faults` meets its contract. Invariant: in an image that decodes, the list is sound if what is left of it is.
-- Measure: the bytes left. Assumes nothing.
use Rattle.std.specs.Prelude.{Some}
use Prim.Native.Nat.{◌-◌}
use mathlib.Core.Path.{◌≡◌}
use lib.ListN.{length}
use Rattle.pack.specs.Pack.{Decoded, decode_at}
use Rattle.faults.specs.Faults.{sound_from}
use Rattle.faults.proofs.sound_faults.Given as goal

abbrev pub invariant-loop-here : goal.invariant-loop-here
invariant-loop-here l = (d : Decoded) → decode_at l.image 0 ≡ Some d → sound_from d.tracks l.faults 0 ≡ sound_from d.tracks l.faults l.here

abbrev pub decreases-loop-here : goal.decreases-loop-here
decreases-loop-here l = length l.faults - l.here
