-- `Drive::stepped` meets its contract: the drive stands behind the record. Assumes nothing.
use mathlib.Core.Path.{refl}
use Rattle.drive.specs.Drive as Abstract
use Rattle.position.proofs.Places.{steps}
use Rattle.position.proofs.Drive.stepped.Goals as goal

pub returns : goal.returns
unfolding Abstract.moved_past
returns c = record { value = refl; stands = steps _ _ _ _ _ c.requires.standing c.requires.spots c.requires.passes_bound }
