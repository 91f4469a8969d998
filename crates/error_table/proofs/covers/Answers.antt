-- `error_table::covers` meets its contract: the test is the definition's. Assumes nothing.
use mathlib.Core.Path.{refl}
use Rattle.recovery.specs.Table.{covers}
use Rattle.error_table.proofs.covers.Goals as goal

pub returns : goal.returns
unfolding covers
returns c = refl
