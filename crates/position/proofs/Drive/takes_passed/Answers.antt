-- `Drive::takes_passed` meets its contract. Assumes nothing.
use Rattle.position.proofs.Drive.takes_passed.Goals as goal

pub returns-then-not-just : goal.returns-then-not-just
returns-then-not-just c = rw (c.if-not-just.true)

pub returns : goal.returns
returns c = rw (c.if-not-just.false)
