-- `channel::holds` meets its contract by cases of the place. Assumes nothing.
use Rattle.channel.specs.Fetch.{stands_in}
use Rattle.channel.proofs.holds.Goals as goal

pub returns-in-Chain : goal.returns-in-Chain
unfolding stands_in
returns-in-Chain c = rw c.in-Chain.is c.stands.ensures

pub returns-in-Restart : goal.returns-in-Restart
unfolding stands_in
returns-in-Restart c = rw c.in-Restart.is c.stands-in-Restart.ensures
