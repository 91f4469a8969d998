-- Which places fit the numbers that hold them.
--   inside_next   the place behind a CCW that stands in its area
--   low_next      behind one whose address is low
--   chain_low     a CSW can show a CCW of the chain
use Prim.Native.Nat.{ℕ, ◌<◌, ◌≤◌}
use native.Mathlib.Omega.{arith}
use mathlib.Core.List.{List, []}
use lib.ListN.{length}
use Rattle.channel.specs.declared.Location.{Location}
use Rattle.channel.specs.declared.Location.TheVariants.{Chain, Restart}
use Rattle.channel.specs.Ccw.{address_of}
use Rattle.channel.specs.Fetch.{Inside}
use Rattle.location.specs.Low.{Low, NextFits}

pub inside_next : (s r : List ℕ) (l : Location) → Inside s r l → length s < 0x10000000000000000 → length r < 0x10000000000000000 → NextFits l
inside_next s r (Chain a) i h g = record { fits = omega arith }
inside_next s r (Restart a) i h g = record { fits = omega arith }

pub low_next : (l : Location) → address_of l < 0x20000 → NextFits l
unfolding address_of
low_next (Chain a) h = record { fits = omega arith }
low_next (Restart a) h = record { fits = omega arith }

pub chain_low : (chain : List ℕ) → length chain ≤ 2048 → (l : Location) → Inside chain [] l → Low l
unfolding address_of
chain_low chain h (Chain a) i = omega arith
chain_low chain h (Restart a) i = omega arith
