-- `channel::anew` meets its contract by cases of the place. Assumes nothing.
use mathlib.Core.Path.{sym}
use Rattle.channel.proofs.anew.Goals as goal

pub returns-in-Chain : goal.returns-in-Chain
returns-in-Chain c = sym c.in-Chain.is

pub returns-in-Restart : goal.returns-in-Restart
returns-in-Restart c = sym c.in-Restart.is
