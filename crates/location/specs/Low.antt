-- Which places and CSWs fit the numbers that hold them.
use Rattle.std.specs.Prelude.{ℕ, ◌+◌, ◌<◌}
use Rattle.channel.specs.declared.Location.{Location}
use Rattle.channel.specs.declared.Location.TheVariants.{Chain, Restart}
use Rattle.channel.specs.declared.Csw.{Csw}
use Rattle.channel.specs.Ccw.{address_of}

-- an address that a CSW can show
abbrev pub Low : Location → Type 0
Low l = address_of l < 0x10000

-- a CCW's place in its area
abbrev pub place_in : Location → ℕ
place_in (Chain a) = a
place_in (Restart a) = a

-- the place behind a CCW is a number of 64 bits
pub record NextFits (l : Location) : Type 0 where
  pub fits : place_in l + 8 < 0x10000000000000000

-- The numbers of a CSW fit their bytes; its two status bytes are bytes in the code.
pub record CswLow (w : Csw) : Type 0 where
  pub address : w.address < 0x1000000
  pub count : w.count < 0x10000
