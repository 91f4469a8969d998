-- The channel status word (document 01, "Channel").
use Rattle.std.specs.Prelude.{ℕ, ◌+◌, List, ◌∷◌, ◌++◌}
use Rattle.base.specs.Bytes.{two, three}
use Rattle.channel.specs.declared.Location.{Location}
use Rattle.channel.specs.declared.Csw.{Csw}
use Rattle.channel.specs.Ccw.{address_of}

-- "unit status (channel end 08, device end 04, unit check 02, unit exception 01)"
abbrev pub channel_end : ℕ
channel_end = 0x08

-- "device end 04"
abbrev pub device_end : ℕ
device_end = 0x04

-- "unit check 02"
abbrev pub unit_check : ℕ
unit_check = 0x02

-- "unit exception 01"
abbrev pub unit_exception : ℕ
unit_exception = 0x01

-- "Otherwise unit status is 0C, plus unit check or unit exception."
abbrev pub end_status : ℕ
end_status = channel_end + device_end

-- "channel status (incorrect length 40, program check 20)"
abbrev pub incorrect_length_status : ℕ
incorrect_length_status = 0x40

-- "program check 20"
abbrev pub program_check_status : ℕ
program_check_status = 0x20

-- "last CCW's address plus 8", unit status, channel status, count left
unfoldable pub csw_at : Location → (unit channel count : ℕ) → Csw
csw_at l unit channel count = record { address = address_of l + 8; unit = unit; channel = channel; count = count }

-- "CSW: 00, last CCW's address plus 8 (3), unit status .., channel status .., count left 2"
unfoldable pub csw_bytes : Csw → List ℕ
csw_bytes w = 0 ∷ three w.address ++ w.unit ∷ w.channel ∷ two w.count
