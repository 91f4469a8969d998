-- `explain_correction::put_changes` meets its contract. Invariant: the lines that are left, put where the loop stands, make the whole. Assumes nothing.
use Prim.Native.Nat.{ℕ, ◌+◌, ◌*◌, ◌≤◌}
use mathlib.Core.Path.{◌≡◌}
use mathlib.Core.List.{List}
use lib.ListN.{length, drop}
use Rattle.text.specs.Text.{Puts}
use Rattle.explain_correction.specs.Correction.{changes_from, change_lines}
use Rattle.explain_correction.proofs.put_changes.Given as goal

abbrev pub invariant-loop-a : goal.invariant-loop-a
invariant-loop-a l =
    (length l.out ≡ length l.initial.out)
    × (l.a ≤ length l.storage)
    × (l.next + l.left * 35 ≤ l.at + 105)
    × ((z : List ℕ) (q : ℕ) → Puts l.out l.next (changes_from l.left l.a (drop l.a l.storage)) z q → Puts l.initial.out l.at (change_lines l.storage) z q)
