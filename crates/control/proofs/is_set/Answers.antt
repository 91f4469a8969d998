-- `control::is_set` meets its contract by cases of the mask. Assumes nothing.
use Rattle.drive.specs.Step as Step
use Rattle.control.proofs.is_set.Goals as goal

pub returns-in-None : goal.returns-in-None
unfolding Step.is_set
returns-in-None c = rw c.in-None.is

pub returns-in-Some : goal.returns-in-Some
unfolding Step.is_set
returns-in-Some c = rw c.in-Some.is
