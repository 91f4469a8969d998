-- `explain_sense::put_sense` meets its contract. Invariant: the bits that are left, put where the loop stands, make the whole. Assumes nothing.
use Prim.Native.Nat.{ℕ, ◌+◌, ◌*◌, ◌-◌, ◌≤◌}
use mathlib.Core.Path.{◌≡◌}
use mathlib.Core.List.{List}
use lib.ListN.{length}
use Rattle.text.specs.Text.{Puts}
use Rattle.words.specs.Each.{each}
use Rattle.explain_sense.specs.Sense.{sense_line}
use Rattle.explain_sense.proofs.put_sense.Given as goal

abbrev pub invariant-loop-i : goal.invariant-loop-i
invariant-loop-i l =
    (length l.out ≡ length l.initial.out)
    × (l.i ≤ 24)
    × (l.next ≤ l.at + l.i * 76)
    × ((z : List ℕ) (q : ℕ) → Puts l.out l.next (each (24 - l.i) l.i (sense_line l.sense)) z q → Puts l.initial.out l.at (each 24 0 (sense_line l.sense)) z q)
