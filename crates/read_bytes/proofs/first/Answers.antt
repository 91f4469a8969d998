-- `read_bytes::first` meets its contract, test by test. Assumes nothing.
use Rattle.base.specs.Choice.{pick}
use Rattle.read_bytes.specs.Bytes.{from}
use Rattle.read_bytes.proofs.first.Goals as goal

pub returns-then-k : goal.returns-then-k
unfolding from pick
returns-then-k c = rw c.if-k.true

pub returns-then-k-2 : goal.returns-then-k-2
unfolding from pick
returns-then-k-2 c = rw (c.if-k.false, c.if-k-2.true)

pub returns : goal.returns
unfolding from pick
returns c = rw (c.if-k.false, c.if-k-2.false)
