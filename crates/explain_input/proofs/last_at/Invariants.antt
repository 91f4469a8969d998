-- `explain_input::last_at` meets its contract. Invariant: from here on the extent's field is that of the whole. Measure: the bytes left. Assumes nothing.
use Prim.Native.Nat.{◌-◌, ◌≤◌}
use mathlib.Core.Path.{◌≡◌}
use lib.ListN.{length}
use Rattle.explain_input.specs.Input.{last_at}
use Rattle.explain_input.proofs.last_at.Given as goal

abbrev pub invariant-loop-at : goal.invariant-loop-at
invariant-loop-at l = (l.from ≤ l.at) × (l.at ≤ length l.input) × (last_at l.input l.at ≡ last_at l.input l.from)

abbrev pub decreases-loop-at : goal.decreases-loop-at
decreases-loop-at l = length l.input - l.at
