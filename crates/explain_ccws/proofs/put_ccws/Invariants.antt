-- `explain_ccws::put_ccws` meets its contract. Invariant: the lines that are left, put where the loop stands, make the whole. Assumes nothing.
use Prim.Native.Nat.{ℕ, ◌+◌, ◌*◌, ◌-◌, ◌≤◌}
use mathlib.Core.Path.{◌≡◌}
use mathlib.Core.List.{List}
use lib.ListN.{length}
use Rattle.text.specs.Text.{Puts}
use Rattle.words.specs.Each.{each}
use Rattle.explain_ccws.specs.Ccws.{slot_line, ccw_lines}
use Rattle.explain_ccws.proofs.put_ccws.Given as goal

abbrev pub invariant-loop-i : goal.invariant-loop-i
invariant-loop-i l =
    (length l.out ≡ length l.initial.out)
    × (l.i ≤ l.n)
    × (l.next ≤ l.at + l.i * 682)
    × ((z : List ℕ) (q : ℕ) → Puts l.out l.next (each (l.n - l.i) l.i (slot_line l.label l.origin l.s l.restart_arguments)) z q → Puts l.initial.out l.at (ccw_lines l.label l.origin l.s l.restart_arguments l.n) z q)
