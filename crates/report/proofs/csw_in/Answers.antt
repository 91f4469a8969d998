-- `report::csw_in` meets its contract by `csw_is` and by the bounds of its numbers. Assumes nothing.
use Rattle.report.proofs.Front.{csw_is}
use Rattle.report.proofs.csw_in.Goals as goal

pub returns : goal.returns
returns c = record { value = csw_is _ _ c.be24.ensures.value c.be16.ensures.value; address_bound = c.be24.ensures.upper_bound; count_bound = c.be16.ensures.upper_bound }
