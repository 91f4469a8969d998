-- The models of a pack.
--   last_low     the last cylinder's number fits two bytes
use Prim.Native.Nat.{◌<◌}
use native.Mathlib.Omega.{arith}
use Rattle.address.specs.declared.Model.{Model}
use Rattle.address.specs.declared.Model.TheVariants.{One, Eleven}
use Rattle.address.specs.Model.{last_of}

pub last_low : (m : Model) → last_of m < 65536
last_low One = omega arith
last_low Eleven = omega arith
