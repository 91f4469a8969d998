-- `sense_bytes::over_bit` meets its contract by cases of the test. Assumes nothing.
use Rattle.base.specs.Choice.{pick}
use Rattle.sense_bytes.proofs.over_bit.Goals as goal

pub returns-then-over : goal.returns-then-over
unfolding pick
returns-then-over c = rw c.if-over.true

pub returns : goal.returns
unfolding pick
returns c = rw c.if-over.false
