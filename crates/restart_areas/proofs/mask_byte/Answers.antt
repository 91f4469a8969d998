-- `restart_areas::mask_byte` meets its contract: each arm is a clause of `mask_byte`. Assumes nothing.
use Rattle.restart.specs.Restart.{mask_byte}
use Rattle.restart_areas.proofs.mask_byte.Goals as goal

pub returns-in-None : goal.returns-in-None
unfolding mask_byte
returns-in-None c = rw c.in-None.is

pub returns-in-Some : goal.returns-in-Some
unfolding mask_byte
returns-in-Some c = rw c.in-Some.is
