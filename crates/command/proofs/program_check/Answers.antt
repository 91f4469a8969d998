-- `command::program_check` meets its contract. Assumes nothing.
use Rattle.drive.specs.Step as Step
use Rattle.command.proofs.program_check.Goals as goal

pub returns : goal.returns
unfolding Step.program_check
returns c = record { answers = λ st. rw c.csw_at.ensures.value; kept_always = λ image. c.csw_at.ensures.csw_low }
