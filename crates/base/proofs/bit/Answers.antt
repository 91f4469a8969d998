-- `base::bit` meets its contract: the shift is the quotient by the bit's value, the mask 1 the remainder by 2. Assumes nothing.
use Prim.Native.Nat.{◌-◌, ◌/◌, ◌^◌}
use lib.Bits.{and_mask}
use Rattle.base.specs.Bits.{bit_on}
use Rattle.base.proofs.bit.Goals as goal

pub returns : goal.returns
unfolding bit_on
returns c = rw (and_mask (c.args.x / 2 ^ (7 - c.args.k)) 1)
