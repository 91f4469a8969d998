-- `explain_names::put_flags` meets its contract. Invariant: the flags that are left, put where the loop stands, make the whole. Assumes nothing.
use Prim.Native.Nat.{ℕ, ◌+◌, ◌*◌, ◌-◌, ◌≤◌}
use mathlib.Core.Path.{◌≡◌}
use mathlib.Core.List.{List}
use lib.ListN.{length}
use Rattle.text.specs.Text.{Puts}
use Rattle.words.specs.Each.{each}
use Rattle.explain_names.specs.Names.{flag_text, flags_text}
use Rattle.explain_names.proofs.put_flags.Given as goal

abbrev pub invariant-loop-k : goal.invariant-loop-k
invariant-loop-k l =
    (length l.out ≡ length l.initial.out)
    × (l.k ≤ 8)
    × (l.next ≤ l.at + l.k * 66)
    × ((z : List ℕ) (q : ℕ) → Puts l.out l.next (each (8 - l.k) l.k (flag_text l.flags)) z q → Puts l.initial.out l.at (flags_text l.flags) z q)
