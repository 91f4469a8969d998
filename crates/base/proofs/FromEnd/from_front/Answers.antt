-- `base::FromEnd::from_front` meets its contract. Assumes nothing.
use mathlib.Core.Path.{refl}
use Rattle.base.proofs.FromEnd.from_front.Goals as goal

pub returns : goal.returns
returns c = refl
