-- `command::refuse_step` meets its contract. Assumes nothing.
use Rattle.drive.specs.Step as Step
use Rattle.command.proofs.refuse_step.Goals as goal

pub returns : goal.returns
unfolding Step.refusal
returns c = record { answers = c.checked.ensures.checked; kept_always = c.checked.ensures.kept_always }
