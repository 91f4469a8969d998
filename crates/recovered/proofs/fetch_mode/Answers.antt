-- `recovered::fetch_mode` meets its contract: by whether a mask is set. Assumes nothing.
use Rattle.recovery.specs.Recovery.{fetch_mode}
use Rattle.recovered.proofs.fetch_mode.Goals as goal

pub returns-in-None : goal.returns-in-None
unfolding fetch_mode
returns-in-None c = rw c.in-None.is

pub returns-in-Some : goal.returns-in-Some
unfolding fetch_mode
returns-in-Some c = rw c.in-Some.is c.bit.ensures
