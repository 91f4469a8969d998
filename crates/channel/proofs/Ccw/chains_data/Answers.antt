-- `channel::Ccw::chains_data` meets its contract: the bit that `bit` ensures. Assumes nothing.
use Rattle.channel.specs.Ccw.{chains_data}
use Rattle.channel.proofs.Ccw.chains_data.Goals as goal

pub returns : goal.returns
unfolding chains_data
returns c = c.bit.ensures
