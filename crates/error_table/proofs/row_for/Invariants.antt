-- `error_table::row_for` meets its contract. Invariant: of the rows left, the first that fits is that of the whole table. Assumes nothing.
use Prim.Native.Nat.{◌+◌}
use mathlib.Core.Path.{◌≡◌}
use mathlib.Core.List.{[], ◌∷◌}
use lib.ListN.{drop}
use Rattle.recovery.specs.Table as Table
use Rattle.error_table.specs.Table.{first_row}
use Rattle.error_table.proofs.row_for.Given as goal

abbrev pub invariant-loop-i : goal.invariant-loop-i
invariant-loop-i l = first_row (l.i + 1) (drop l.i Table.rows) (l.s0 ∷ l.s1 ∷ l.s2 ∷ []) ≡ first_row 1 Table.rows (l.s0 ∷ l.s1 ∷ l.s2 ∷ [])
