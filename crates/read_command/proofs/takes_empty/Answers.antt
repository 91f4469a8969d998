-- `read_command::takes_empty` meets its contract. Assumes nothing.
use borrow.Author.Tests.{not-true, not-false}
use Rattle.read_command.proofs.takes_empty.Goals as goal

pub returns-then-not-k : goal.returns-then-not-k
returns-then-not-k c = rw (not-true _ c.if-not-k.true)

pub returns : goal.returns
returns c = rw (not-false _ c.if-not-k.false)
