-- `channel::Ccw::skips` meets its contract: the bit that `bit` ensures. Assumes nothing.
use Rattle.channel.specs.Ccw.{skips}
use Rattle.channel.proofs.Ccw.skips.Goals as goal

pub returns : goal.returns
unfolding skips
returns c = c.bit.ensures
