-- `explain_ccws::used_in` meets its contract. Invariant: from here on as many are used as in all. Assumes nothing.
use Prim.Native.Nat.{◌-◌, ◌≤◌}
use mathlib.Core.Path.{◌≡◌}
use Rattle.explain_ccws.specs.Ccws.{used_from, used_in}
use Rattle.explain_ccws.proofs.used_in.Given as goal

abbrev pub invariant-loop-i : goal.invariant-loop-i
invariant-loop-i l = (l.i ≤ 8) × (used_from (8 - l.i) l.program l.i ≡ used_in l.program)
