-- `Drive::turned` meets its contract: the index is a place on the track like any other. Assumes nothing.
use mathlib.Core.Path.{refl}
use Rattle.drive.specs.Drive as Abstract
use Rattle.position.proofs.Index.{index_again}
use Rattle.position.proofs.Drive.turned.Goals as goal

pub returns : goal.returns
unfolding Abstract.at_index
returns c = record { value = refl; standing = index_again _ _ _ c.requires }
