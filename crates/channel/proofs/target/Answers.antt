-- `channel::target` meets its contract by cases of the place. Assumes nothing.
use borrow.Author.Tests.{lt-ltb, le-ltb}
use Rattle.base.specs.Choice.{pick}
use Rattle.channel.specs.Ccw.{target}
use Rattle.channel.proofs.target.Goals as goal

pub returns-in-Chain : goal.returns-in-Chain
unfolding target
returns-in-Chain c = rw c.in-Chain.is

pub returns-then-to-lt4096 : goal.returns-then-to-lt4096
unfolding target pick
returns-then-to-lt4096 c = rw (c.in-Restart.is, lt-ltb _ _ c.if-to-lt4096.true)

pub returns-in-Restart : goal.returns-in-Restart
unfolding target pick
returns-in-Restart c = rw (c.in-Restart.is, le-ltb _ _ c.if-to-lt4096.false)
