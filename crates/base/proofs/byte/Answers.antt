-- `base::byte` meets its contract: an element of a slice of bytes is below 256. Assumes nothing.
use native.Mathlib.Omega.{arith}
use mathlib.Core.Path.{refl}
use Rattle.base.proofs.byte.Goals as goal

pub overflow_cast-result : goal.overflow_cast-result
overflow_cast-result c = omega (arith, c.shared_slice_known-1.given c.args.at)

pub returns : goal.returns
returns c = record { value = refl; upper_bound = omega (arith, c.shared_slice_known-1.given c.args.at) }
