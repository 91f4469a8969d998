-- `error_table::fits` meets its contract: the tests of the three bytes, in order. Assumes nothing.
use borrow.Author.Rules.{rules}
use Rattle.recovery.specs.Table.{fits}
use Rattle.error_table.proofs.fits.Goals as goal

pub returns-then-covers-2 : goal.returns-then-covers-2
unfolding fits
returns-then-covers-2 c = search rules

pub returns-else-covers-2 : goal.returns-else-covers-2
unfolding fits
returns-else-covers-2 c = search rules
