-- `recover::tried` meets its contract: by the tries made. Assumes nothing.
use borrow.Author.Tests.{lt-ltb, le-ltb}
use Rattle.base.specs.Choice.{pick}
use Rattle.recover.specs.Recover.{tried_of}
use Rattle.recover.proofs.tried.Goals as goal

pub returns-then-tries-limit : goal.returns-then-tries-limit
unfolding tried_of pick
returns-then-tries-limit c = rw (lt-ltb _ _ c.if-tries-limit.true)

pub returns-else-tries-limit : goal.returns-else-tries-limit
unfolding tried_of pick
returns-else-tries-limit c = rw (le-ltb _ _ c.if-tries-limit.false)
