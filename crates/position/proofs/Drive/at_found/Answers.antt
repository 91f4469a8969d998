-- `Drive::at_found` meets its contract: it stands where the search for the track ends. Assumes nothing.
use mathlib.Core.Path.{refl}
use Rattle.drive.specs.Drive as Abstract
use Rattle.position.proofs.Index.{index_on, index_off}
use Rattle.position.proofs.Drive.at_found.Goals as goal

pub returns-in-Some : goal.returns-in-Some
unfolding Abstract.at_index
returns-in-Some c = record { value = refl; standing = index_on _ _ _ c.requires.sound c.requires.cylinder_bound _ (rw c.in-Some.is at c.requires.track_found) }

pub returns-in-None : goal.returns-in-None
unfolding Abstract.at_index
returns-in-None c = record { value = refl; standing = index_off _ _ _ c.requires.sound c.requires.cylinder_bound (rw c.in-None.is at c.requires.track_found) }
