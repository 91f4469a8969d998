-- `reading_lines::put_recoveries` meets its contract. Invariant: the lines that are left, put where the loop stands, make the whole. Measure: the
-- recoveries left. Assumes nothing.
use Prim.Native.Nat.{ℕ, ◌+◌, ◌*◌, ◌≤◌}
use mathlib.Core.Path.{◌≡◌}
use mathlib.Core.List.{List}
use lib.ListN.{length, drop}
use Rattle.text.specs.Text.{Puts}
use Rattle.reading_lines.specs.Lines.{recovery_lines}
use Rattle.reading_lines.proofs.put_recoveries.Given as goal

abbrev pub invariant-loop-left : goal.invariant-loop-left
invariant-loop-left l =
    (length l.out ≡ length l.initial.out)
    × (l.from + l.left * 6 ≡ l.made * 6)
    × (l.next + l.left * 21 ≤ l.at + l.made * 21)
    × ((z : List ℕ) (q : ℕ) → Puts l.out l.next (recovery_lines l.left (drop l.from l.list)) z q → Puts l.initial.out l.at (recovery_lines l.made l.list) z q)

abbrev pub decreases-loop-left : goal.decreases-loop-left
decreases-loop-left l = l.left
