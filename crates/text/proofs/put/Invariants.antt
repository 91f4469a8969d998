-- `text::put` meets its contract. Invariant: the bytes that are left, put where the loop stands, make the whole.
-- Assumes nothing.
use Prim.Native.Nat.{◌+◌, ◌≤◌}
use mathlib.Core.Path.{◌≡◌}
use lib.ListN.{length, drop}
use Rattle.text.specs.Text.{written}
use Rattle.text.proofs.put.Given as goal

abbrev pub invariant-loop-i : goal.invariant-loop-i
invariant-loop-i l = (l.i ≤ length l.s) × (length l.to ≡ length l.initial.to) × (written l.to (l.at + l.i) (drop l.i l.s) ≡ written l.initial.to l.at l.s)
