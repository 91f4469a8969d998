-- "Bit 0 is a byte's highest."
use Rattle.std.specs.Prelude.{ℕ, ◌-◌, ◌/◌, ◌%◌, ◌^◌, Bool, List, eqb, get_or, set}
use Rattle.std.specs.Int.Bits.{bit_xor}

-- whether bit k of a byte is on: bit 0 counts 128, bit 7 counts 1
unfoldable pub bit_on : ℕ → ℕ → Bool
bit_on k x = eqb (x / 2 ^ (7 - k) % 2) 1

-- x exclusive-ored into the byte at a place; a place outside changes nothing
unfoldable pub xored_at : ℕ → ℕ → List ℕ → List ℕ
xored_at at x s = set s at (bit_xor (get_or s at 0) x)
