-- Channel command words, the areas they stand in and may name, and how the next one is found (document 01, "Channel").
use Rattle.std.specs.Prelude.{ℕ, ◌+◌, ◌-◌, ◌%◌, Bool, ◌&&◌, ◌||◌, not, List, eqb, ltb, leb, length, get_or, Option, Some, None, Result, Ok, Err}
use Rattle.base.specs.Choice.{pick}
use Rattle.base.specs.Bytes.{be16_at, be24_at, part}
use Rattle.base.specs.Bits.{bit_on}
use Rattle.channel.specs.declared.Ccw.{Ccw}
use Rattle.channel.specs.declared.Location.{Location}
use Rattle.channel.specs.declared.Location.TheVariants.{Chain, Restart}

-- ---- a CCW

-- "CCW: command, address 3, flags .., ignored byte, count 2"
unfoldable pub ccw_at : List ℕ → ℕ → Ccw
ccw_at s a = record { command = get_or s a 0; address = be24_at s (a + 1); flags = get_or s (a + 4) 0; count = be16_at s (a + 6) }

-- "flags (CD 80, CC 40, SLI 20, skip 10, PCI 08 without effect, others 0)"
unfoldable pub chains_data : Ccw → Bool
chains_data c = bit_on 0 c.flags

-- "CC 40": the chain goes on with another command
unfoldable pub chains_command : Ccw → Bool
chains_command c = bit_on 1 c.flags

-- "SLI 20", whatever CD is
unfoldable pub suppresses : Ccw → Bool
suppresses c = bit_on 2 c.flags

-- "skip 10": the bytes of a read under it are not stored
unfoldable pub skips : Ccw → Bool
skips c = bit_on 3 c.flags

-- "TIC is any code ending in 8"
unfoldable pub is_tic : Ccw → Bool
is_tic c = eqb (c.command % 16) 8

-- "count 0 or low flag bits on outside TIC" is a program check
unfoldable pub formed : Ccw → Bool
formed c = not (eqb c.count 0) && eqb (c.flags % 8) 0

-- ---- where CCWs stand

-- "chain (CCWs, addresses from 0000) .. restart program, 64 bytes at 1000"
unfoldable pub address_of : Location → ℕ
address_of (Chain a) = a
address_of (Restart a) = 0x1000 + a

-- the CCW behind
unfoldable pub next : Location → Location
next (Chain a) = Chain (a + 8)
next (Restart a) = Restart (a + 8)

-- the areas that a run only reads
pub record Lent : Type 0 where
  pub chain : List ℕ
  pub arguments : List ℕ
  pub program : List ℕ
  pub restart_arguments : List ℕ

-- "a CCW address past the chain or not a multiple of 8" is a program check
unfoldable pub fetch_in : List ℕ → ℕ → Option Ccw
fetch_in s a = pick (leb (a + 8) (length s) && eqb (a % 8) 0) (Some (ccw_at s a)) None

-- the CCW at a place, in the chain or in the restart program; none where no CCW stands
unfoldable pub fetch : Lent → Location → Option Ccw
fetch p (Chain a) = fetch_in p.chain a
fetch p (Restart a) = fetch_in p.program a

-- "In the chain a TIC names a CCW of the chain"; one of a restart program names either.
unfoldable pub target : Location → ℕ → Location
target (Chain a) to = Chain to
target (Restart a) to = pick (ltb to 0x1000) (Chain to) (Restart (to - 0x1000))

-- ---- the next CCW

-- behind a TIC: "TIC .. to a TIC" is a program check
unfoldable pub landed : Location → Location → Option Ccw → Result (Location × Ccw) Location
landed tic l None = Err tic
landed tic l (Some c) = pick (is_tic c) (Err l) (Ok (l, c))

-- the CCW c at l, or the one to which it leads as a TIC; a program check where there is none, with the CCW that was fetched last
unfoldable pub follow : Lent → Location → Location → Option Ccw → Result (Location × Ccw) Location
follow p last l None = Err last
follow p last l (Some c) = pick (is_tic c) (landed l (target l c.address) (fetch p (target l c.address))) (Ok (l, c))

-- from the CCW that was fetched last to the one at a place
unfoldable pub resolve : Lent → Location → Location → Result (Location × Ccw) Location
resolve p last l = follow p last l (fetch p l)

-- ---- what a CCW may name

-- "a control or search command the arguments": their bytes
unfoldable pub arguments_at : Lent → Location → List ℕ
arguments_at p (Chain a) = p.arguments
arguments_at p (Restart a) = p.restart_arguments

-- the address of the first: "arguments (from 0000)", "restart arguments, 16 bytes at 2000"
unfoldable pub arguments_base : Location → ℕ
arguments_base (Chain a) = 0
arguments_base (Restart a) = 0x2000

-- "a data range not wholly in its area" is a program check
unfoldable pub argument_inside : Lent → Location → Ccw → Bool
argument_inside p l c =
    leb (arguments_base l) c.address && leb (c.address + c.count) (arguments_base l + length (arguments_at p l))

-- the argument's bytes
unfoldable pub argument : Lent → Location → Ccw → List ℕ
argument p l c = part (arguments_at p l) (c.address - arguments_base l) (c.address - arguments_base l + c.count)

-- "a read the storage", "unless a read skips it"; size is storage's
unfoldable pub storage_inside : ℕ → Ccw → Bool
storage_inside size c = skips c || leb (c.address + c.count) size
