-- `text::put_bytes` meets its contract. Invariant: the digits that are left, put where the loop stands, make the whole. Assumes nothing.
use Prim.Native.Nat.{ℕ, ◌+◌, ◌*◌, ◌≤◌}
use mathlib.Core.Path.{◌≡◌}
use mathlib.Core.List.{List}
use lib.ListN.{length, drop}
use Rattle.text.specs.Text.{Puts, bytes_text}
use Rattle.text.proofs.put_bytes.Given as goal

abbrev pub invariant-loop-from : goal.invariant-loop-from
invariant-loop-from l =
    (length l.to ≡ length l.initial.to)
    × (l.from ≤ length l.s)
    × (l.next ≡ l.at + l.from * 2)
    × ((z : List ℕ) (q : ℕ) → Puts l.to l.next (bytes_text (drop l.from l.s)) z q → Puts l.initial.to l.at (bytes_text l.s) z q)
