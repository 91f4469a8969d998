-- Text in an area: bytes at a place, and numbers in digits.
use Rattle.std.specs.Prelude.{ℕ, zero, suc, ◌+◌, ◌/◌, ◌%◌, ◌≡◌, List, [], ◌∷◌, ◌++◌, ltb, length}
use Prim.Native.Char.{code}
use Prim.Native.String as String
use Prim.Native.String.{String}
use Rattle.base.specs.Choice.{pick}

-- An area with bytes at a place of it; every other byte is as it was, and bytes past its end are left out.
unfoldable pub written : List ℕ → ℕ → List ℕ → List ℕ
written [] at s = []
written (x ∷ xs) (suc at) s = x ∷ written xs at s
written (x ∷ xs) zero [] = x ∷ xs
written (x ∷ xs) zero (b ∷ s) = b ∷ written xs zero s

-- A text was put at a place of x: y is the area behind it, r the place behind it.
pub record Puts (x : List ℕ) (at : ℕ) (s y : List ℕ) (r : ℕ) : Type 0 where
  pub bytes : y ≡ written x at s
  pub next : r ≡ at + length s

-- the bytes of a quoted text, each its character's code
unfoldable pub ascii : String → List ℕ
ascii String.[] = []
ascii (String.◌∷◌ c s) = code c ∷ ascii s

-- the character of a digit below 16: 0 to 9, then A to F
unfoldable pub character : ℕ → ℕ
character d = pick (ltb d 10) (0x30 + d) (0x37 + d)

-- the last k digits of a number in a base, the most significant first
unfoldable pub digits : ℕ → ℕ → ℕ → List ℕ
digits base zero n = []
digits base (suc k) n = digits base k (n / base) ++ (character (n % base) ∷ [])

-- a space and the digits
unfoldable pub number : ℕ → ℕ → ℕ → List ℕ
number base k n = 0x20 ∷ digits base k n

-- bytes as two hexadecimal digits each
unfoldable pub bytes_text : List ℕ → List ℕ
bytes_text [] = []
bytes_text (b ∷ s) = digits 16 2 b ++ bytes_text s
