-- `Drive::initial` meets its contract: a run starts at the index of the first track. Assumes nothing.
use Rattle.drive.specs.Drive as Abstract
use Rattle.position.proofs.Drive.initial.Goals as goal

pub returns : goal.returns
unfolding Abstract.at_index Abstract.initial
returns c = record { value = c.at_track.ensures.value; standing = c.at_track.ensures.standing }
