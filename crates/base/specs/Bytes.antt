-- Bytes by their places, and "Numbers of several bytes are big-endian."
use Rattle.std.specs.Prelude.{ℕ, ◌+◌, ◌-◌, ◌*◌, ◌/◌, ◌%◌, List, [], ◌∷◌, get_or, take, drop}

-- the two-byte number at a place
abbrev pub be16_at : List ℕ → ℕ → ℕ
be16_at s at = get_or s at 0 * 256 + get_or s (at + 1) 0

-- the three-byte number at a place
abbrev pub be24_at : List ℕ → ℕ → ℕ
be24_at s at = get_or s at 0 * 65536 + be16_at s (at + 1)

-- the bytes from place a up to place e
unfoldable pub part : List ℕ → ℕ → ℕ → List ℕ
part s a e = take (e - a) (drop a s)

-- a number as two bytes, the highest first
unfoldable pub two : ℕ → List ℕ
two n = n / 256 ∷ n % 256 ∷ []

-- a number as three bytes, the highest first
unfoldable pub three : ℕ → List ℕ
three n = n / 65536 ∷ n / 256 % 256 ∷ n % 256 ∷ []
