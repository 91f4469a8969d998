-- `channel::Ccw::is_tic` meets its contract by definition. Assumes nothing.
use mathlib.Core.Path.{refl}
use Rattle.channel.specs.Ccw.{is_tic}
use Rattle.channel.proofs.Ccw.is_tic.Goals as goal

pub returns : goal.returns
unfolding is_tic
returns c = refl
