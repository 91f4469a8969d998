-- `channel::ccw_at` meets its contract: the four fields are those that the byte readers ensure. Assumes nothing.
use Rattle.channel.specs.Ccw.{ccw_at}
use Rattle.channel.proofs.ccw_at.Goals as goal

pub returns : goal.returns
unfolding ccw_at
returns c = record { value = rw (c.be16.ensures.value, c.be24.ensures.value); in_bytes = record { address = c.be24.ensures.upper_bound; count = c.be16.ensures.upper_bound } }
