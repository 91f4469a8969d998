-- `channel::held` meets its contract by cases of the place. Assumes nothing.
use Rattle.channel.specs.Fetch.{ccw_in}
use Rattle.channel.proofs.held.Goals as goal

pub ccw_at-requires : goal.ccw_at-requires
ccw_at-requires c = rw c.in-Chain.is at c.requires

pub ccw_at-requires-in-Restart : goal.ccw_at-requires-in-Restart
ccw_at-requires-in-Restart c = rw c.in-Restart.is at c.requires

pub returns-in-Chain : goal.returns-in-Chain
unfolding ccw_in
returns-in-Chain c = record { value = rw c.in-Chain.is c.ccw_at.ensures.value; in_bytes = c.ccw_at.ensures.in_bytes }

pub returns-in-Restart : goal.returns-in-Restart
unfolding ccw_in
returns-in-Restart c = record { value = rw c.in-Restart.is c.ccw_at-in-Restart.ensures.value; in_bytes = c.ccw_at-in-Restart.ensures.in_bytes }
