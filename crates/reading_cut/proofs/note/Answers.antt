-- `reading_cut::note` meets its contract: six bytes at the front. Assumes nothing.
use Rattle.base.specs.Bytes.{two}
use Rattle.drive.specs.Drive.{address_bytes}
use Rattle.reading_cut.proofs.note.Goals as goal

pub returns : goal.returns
unfolding address_bytes two
returns c = c.put.ensures
