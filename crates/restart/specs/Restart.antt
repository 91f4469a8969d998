-- Restart programs and their arguments (document 01, "Actions built"; document 02, the read count of 5A, and restart CCW 1 of 9 and 11).
use Rattle.std.specs.Prelude.{ℕ, ◌+◌, ◌-◌, Bool, ◌||◌, List, [], ◌∷◌, ◌++◌, eqb, take, replicate, Option, Some, None}
use Rattle.base.specs.Choice.{pick}
use Rattle.base.specs.Bits.{bit_on}
use Rattle.base.specs.Bytes.{two, three}
use Rattle.address.specs.declared.Address.{Address}
use Rattle.channel.specs.declared.Ccw.{Ccw}
use Rattle.channel.specs.Ccw.{skips}
use Rattle.drive.specs.Drive.{address_bytes}
use Rattle.restart.specs.declared.ReadCount.{ReadCount}
use Rattle.restart.specs.declared.ReadCount.TheVariants.{Omitted, Single, Multitrack}

-- "CCW: command, address 3, flags .., ignored byte, count 2"; the ignored byte is 0
unfoldable pub ccw_bytes : (command address flags count : ℕ) → List ℕ
ccw_bytes command address flags count = command ∷ three address ++ flags ∷ 0 ∷ two count

-- "TICs 08 with zeros"
unfoldable pub tic_to : ℕ → List ℕ
tic_to to = ccw_bytes 0x08 to 0 0

-- "unused bytes 0"
unfoldable pub padded : ℕ → List ℕ → List ℕ
padded n s = take n (s ++ replicate n 0)

-- "mask (omitted if none)"
unfoldable pub mask_ccw : Option ℕ → List ℕ
mask_ccw None = []
mask_ccw (Some m) = ccw_bytes 0x1f 0x2006 0x40 1

-- "seek .., mask (omitted if none), sector ..", then what finds the place again, then what goes on from there.
-- "Flags 40 except as said"; "Arguments: seek at 2000, mask 2006, sector 2007, ID 2008."
unfoldable pub program_ending : Option ℕ → (finding last : List ℕ) → List ℕ
program_ending m finding last =
    padded 64 (ccw_bytes 0x07 0x2000 0x40 6 ++ mask_ccw m ++ ccw_bytes 0x23 0x2007 0x40 1 ++ finding ++ last)

-- with a "TIC to" the chain
unfoldable pub program_of : Option ℕ → List ℕ → ℕ → List ℕ
program_of m finding to = program_ending m finding (tic_to to)

-- the address of the CCW behind the sector's
unfoldable pub search_address : Option ℕ → ℕ
search_address None = 0x1010
search_address (Some m) = 0x1018

-- the place in the restart program of the CCW behind the TIC to the search
unfoldable pub count_place : Option ℕ → ℕ
count_place None = 0x20
count_place (Some m) = 0x28

-- "86 or 8E", of a command's code
unfoldable pub is_multitrack_data : ℕ → Bool
is_multitrack_data code = eqb code 0x86 || eqb code 0x8e

-- The read count before the user's next command, of this code: "If that CCW's command has bit 3 off (5A), a read count .. stands before the
-- last TIC."; "In 5A the read count takes code 92 when the next command is 86 or 8E."
unfoldable pub count_for : ℕ → ReadCount
count_for code = pick (bit_on 3 code) Omitted (pick (is_multitrack_data code) Multitrack Single)

-- "a read count (12, flags 50, count 8)", and 92 with the same flags and count
unfoldable pub count_ccw : ReadCount → List ℕ
count_ccw Omitted = []
count_ccw Single = ccw_bytes 0x12 0 0x50 8
count_ccw Multitrack = ccw_bytes 0x92 0 0x50 8

-- "search ID (sense 8 to 12), TIC to that search", and the read count of 5A
unfoldable pub searching : Option ℕ → ReadCount → List ℕ
searching m counts = ccw_bytes 0x31 0x2008 0x40 5 ++ tic_to (search_address m) ++ count_ccw counts

-- the restart program of 5, and with a read count that of 5A
unfoldable pub search_program : Option ℕ → ReadCount → ℕ → List ℕ
search_program m counts to = program_of m (searching m counts) to

-- ---- restart CCW 1

-- "Restart CCW 1 is a 06 with the interrupted CCW's flags, the CSW's count left, and that CCW's address plus the bytes it has taken (under skip
-- unchanged)."
unfoldable pub rest_ccw : Ccw → (left : ℕ) → Ccw
rest_ccw c left = record {
  command = 0x06;
  address = pick (skips c) c.address (c.address + (c.count - left));
  flags = c.flags;
  count = left;
}

-- "The last TIC .. stands only where the interrupted CCW chains."
unfoldable pub tic_ccw : Option ℕ → List ℕ
tic_ccw None = []
tic_ccw (Some to) = tic_to to

-- the restart program of 9 and 11: "1A (flags 50, count 5)", "with restart CCW 1 before the last TIC"
unfoldable pub overflow_program : Option ℕ → (first : Ccw) → Option ℕ → List ℕ
overflow_program m first tic =
    program_ending m (ccw_bytes 0x1a 0 0x50 5 ++ ccw_bytes first.command first.address first.flags first.count) (tic_ccw tic)

-- ---- arguments

-- a mask that was not set is 0
unfoldable pub mask_byte : Option ℕ → ℕ
mask_byte None = 0
mask_byte (Some m) = m

-- seek (00 00, cylinder, head), mask, sector, ID (five bytes)
unfoldable pub restart_arguments_of : Address → Option ℕ → ℕ → List ℕ → List ℕ
restart_arguments_of a m sector id = padded 16 (0 ∷ 0 ∷ address_bytes a ++ mask_byte m ∷ sector ∷ id)

-- the arguments of 5 and 5A: sector 0 stands in a trial drive's sense 13
unfoldable pub search_arguments : Address → Option ℕ → ℕ → ℕ → List ℕ
search_arguments a m sector r = restart_arguments_of a m sector (address_bytes a ++ r ∷ [])
