-- `words::item_at` meets its contract. Invariant: what is left of the way leads where the whole does. Assumes nothing.
use Prim.Native.Nat.{◌≤◌}
use mathlib.Core.Path.{◌≡◌}
use lib.ListN.{length, drop}
use Rattle.words.specs.Words.{rest}
use Rattle.words.proofs.item_at.Given as goal

abbrev pub invariant-loop-at : goal.invariant-loop-at
invariant-loop-at l = (l.at ≤ length l.list) × (rest l.left (drop l.at l.list) ≡ rest l.i l.list)
