-- `control::is_sector` meets its contract. Assumes nothing.
use borrow.Author.Tests.{lt-ltb, le-ltb}
use Rattle.control.proofs.is_sector.Goals as goal

pub returns-then-n-lt128 : goal.returns-then-n-lt128
returns-then-n-lt128 c = rw (lt-ltb _ _ c.if-n-lt128.true)

pub returns : goal.returns
returns c = rw (le-ltb _ _ c.if-n-lt128.false)
