-- `channel::Ccw::suppresses` meets its contract: the bit that `bit` ensures. Assumes nothing.
use Rattle.channel.specs.Ccw.{suppresses}
use Rattle.channel.proofs.Ccw.suppresses.Goals as goal

pub returns : goal.returns
unfolding suppresses
returns c = c.bit.ensures
