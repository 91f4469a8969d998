-- `action_eight_ten::next_cylinder` meets its contract: the cylinder is low. Assumes nothing.
use mathlib.Core.Path.{refl}
use Rattle.action_eight_ten.proofs.next_cylinder.Goals as goal

pub returns : goal.returns
returns c = refl
