-- `report::tell` meets its contract: field by field. Assumes nothing.
use mathlib.Core.Path.{refl, sym}
use Rattle.base.specs.Bytes.{part}
use Rattle.report.proofs.tell.Goals as goal

pub returns : goal.returns
unfolding part
returns c =
    let b = c.requires in record { tells = record { sense = c.sense_of.ensures; csw = refl; first = refl; mask = refl; user = sym c.user_of.ensures.user_of; tries = refl }; told_low = record { csw_low = record { address = b.address; count = b.count }; user_low = c.user_of.ensures.user_low } }
