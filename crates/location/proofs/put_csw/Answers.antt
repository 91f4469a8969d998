-- `location::put_csw` meets its contract: each byte is a number's, and the numbers fit. Assumes nothing.
use Rattle.base.specs.Bytes.{two, three}
use Rattle.channel.specs.Csw.{csw_bytes}
use Rattle.location.proofs.put_csw.Goals as goal

pub returns : goal.returns
unfolding csw_bytes three two
returns c = c.put.ensures
