-- `text::put_digits` meets its contract. Invariant: the digits that are left of the number that is left, put at the place, make the whole.
-- Assumes nothing.
use Prim.Native.Nat.{◌≤◌}
use mathlib.Core.Path.{◌≡◌}
use lib.ListN.{length}
use Rattle.text.specs.Text.{written, digits}
use Rattle.text.proofs.put_digits.Given as goal

abbrev pub invariant-loop-i : goal.invariant-loop-i
invariant-loop-i l = (l.i ≤ l.k) × (length l.to ≡ length l.initial.to) × (written l.to l.at (digits l.base l.i l.rest) ≡ written l.initial.to l.at (digits l.base l.k l.n))
