-- `command::checked` meets its contract. Assumes nothing.
use Rattle.command.proofs.checked.Goals as goal

pub returns : goal.returns
returns c = record { checked = λ st. rw c.csw_at.ensures.value; kept_always = λ image. c.csw_at.ensures.csw_low }
