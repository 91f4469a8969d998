-- `drive::argument_inside` meets its contract: each answer is a law of `argument_inside`. Assumes nothing.
use Rattle.drive.proofs.Arguments.{chain_inside, restart_low, restart_high}
use Rattle.drive.proofs.argument_inside.Goals as goal

pub returns-in-Chain : goal.returns-in-Chain
returns-in-Chain c = λ p e f. rw c.in-Chain.is (chain_inside p _ _ _ e)

pub returns-then-c-lt8192 : goal.returns-then-c-lt8192
returns-then-c-lt8192 c = λ p e f. rw c.in-Restart.is (restart_low p _ _ c.if-c-lt8192.true)

pub returns-in-Restart : goal.returns-in-Restart
returns-in-Restart c = λ p e f. rw c.in-Restart.is (restart_high p _ _ c.if-c-lt8192.false _ f)
