-- `read_bytes::last` meets its contract, test by test. Assumes nothing.
use Rattle.base.specs.Choice.{pick}
use Rattle.read_bytes.specs.Bytes.{to}
use Rattle.read_bytes.proofs.last.Goals as goal

pub returns-then-k : goal.returns-then-k
unfolding to pick
returns-then-k c = rw c.if-k.true

pub returns : goal.returns
unfolding to pick
returns c = rw c.if-k.false
