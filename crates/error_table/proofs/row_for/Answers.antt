-- `error_table::row_for` meets its contract. Invariant: of the rows left, the first that fits is that of the whole table. Assumes nothing.
use Prim.Native.Nat.{◌+◌}
use mathlib.Core.Path.{sym, ◌∙◌}
use Rattle.std.specs.Prelude.{Some, None}
use Rattle.error_table.proofs.Rows.{row_at, hit, miss, passed, matches}
use Rattle.error_table.proofs.row_for.Goals as goal

pub loop-i-preserved : goal.loop-i-preserved
loop-i-preserved c = miss c.loop-i.i _ c.loop-i-test.true (sym c.fits.ensures ∙ c.if-fits.false) ∙ c.loop-i.invariant

pub returns-then-fits : goal.returns-then-fits
returns-then-fits c =
    matches _ _ _ (Some (c.loop-i.i + 1, row_at c.loop-i.i)) (hit c.loop-i.i _ c.loop-i-test.true (sym c.fits.ensures ∙ c.if-fits.true) ∙ c.loop-i.invariant)

pub returns : goal.returns
returns c = matches _ _ _ None (passed _ _ c.loop-i-test.false ∙ c.loop-i.invariant)
