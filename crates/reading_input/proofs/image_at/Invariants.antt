-- `reading_input::image_at` meets its contract. Invariant: what is left of the walk ends where the whole does. Measure: the bytes left. Assumes nothing.
use Prim.Native.Nat.{◌-◌, ◌≤◌}
use mathlib.Core.Path.{◌≡◌}
use lib.ListN.{length}
use Rattle.reading_input.specs.Input.{image_at}
use Rattle.reading_input.proofs.image_at.Given as goal

abbrev pub invariant-loop-here : goal.invariant-loop-here
invariant-loop-here l = (image_at l.input l.here ≡ image_at l.input l.at) × (l.at ≤ l.here) × (l.here ≤ length l.input)

abbrev pub decreases-loop-here : goal.decreases-loop-here
decreases-loop-here l = length l.input - l.here
