-- `channel::Ccw::chains_command` meets its contract: the bit that `bit` ensures. Assumes nothing.
use Rattle.channel.specs.Ccw.{chains_command}
use Rattle.channel.proofs.Ccw.chains_command.Goals as goal

pub returns : goal.returns
unfolding chains_command
returns c = c.bit.ensures
