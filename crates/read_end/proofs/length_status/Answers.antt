-- `read_end::length_status` meets its contract by cases. Assumes nothing.
use Rattle.base.specs.Choice.{pick}
use Rattle.drive.specs.Step.{length_status}
use Rattle.read_end.proofs.length_status.Goals as goal

pub returns-then-wrong : goal.returns-then-wrong
unfolding length_status pick
returns-then-wrong c = rw c.if-wrong.true

pub returns : goal.returns
unfolding length_status pick
returns c = rw c.if-wrong.false
