-- `image::records_end` meets its contract. Invariant: the table marks the numbers of the records passed, and the image is sound if what
-- is left is sound behind them. Measure: the bytes left. Assumes nothing.
use Prim.Native.Nat.{ℕ, ◌-◌, ◌≤◌}
use mathlib.Core.Path.{◌≡◌}
use mathlib.Core.List.{List, [], ◌∷◌}
use lib.ListN.{length}
use Rattle.image.specs.Pass.{sound_inside}
use Rattle.image.proofs.Marks.{Marks}
use Rattle.image.proofs.records_end.Given as goal

abbrev pub invariant-loop-p : goal.invariant-loop-p
invariant-loop-p l =
    (qs : List ℕ)
    × Marks l.seen qs
    × ((last : ℕ) → sound_inside last l.a (0 ∷ []) l.image l.at ≡ sound_inside last l.a qs l.image l.here)
    × (length l.seen ≡ 256)
    × (l.at ≤ l.here)
    × (l.here ≤ length l.image)

abbrev pub decreases-loop-p : goal.decreases-loop-p
decreases-loop-p l = length l.image - l.here
