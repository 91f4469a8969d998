-- `location::csw_at` meets its contract: the address is the CCW's and 8. Assumes nothing.
use native.Mathlib.Omega.{arith}
use Rattle.channel.specs.Csw.{csw_at}
use Rattle.location.proofs.csw_at.Goals as goal

pub returns : goal.returns
unfolding csw_at
returns c = record { value = rw c.address_of.ensures; csw_low = record { address = omega arith; count = omega arith } }
