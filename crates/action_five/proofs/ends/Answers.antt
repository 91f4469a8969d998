-- `action_five::ends` meets its contract: the length, then CC. Assumes nothing.
use mathlib.Core.Path.{ap}
use mathlib.Core.Bool.{not}
use Rattle.action_five.proofs.ends.Goals as goal

pub returns : goal.returns
returns c = rw c.if-wrong.false (ap not c.chains_command.ensures)
