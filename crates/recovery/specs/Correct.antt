-- The correction (document 01, "Actions built", action 5): the pattern is taken out of storage where it stayed.
use Rattle.std.specs.Prelude.{ℕ, Bool, true, false, List, [], ◌∷◌, eqb, get_or, set, Option, Some, None}
use Rattle.std.specs.Int.Bits.{bit_xor}
use Rattle.base.specs.Choice.{pick}

-- a pattern byte into the byte that stands at a place; "Skipped bytes .. are left"
unfoldable pub mend : Option ℕ → ℕ → List ℕ → List ℕ
mend None x st = st
mend (Some a) x st = set st a (bit_xor (get_or st a 0) x)

-- whether two bytes of a read go to one storage address; a skipped byte goes to none
unfoldable pub same_place : Option ℕ → Option ℕ → Bool
same_place None None = false
same_place None (Some b) = false
same_place (Some a) None = false
same_place (Some a) (Some b) = eqb a b

-- whether a later byte of the read goes to the same place
unfoldable pub overwritten : Option ℕ → List (Option ℕ) → Bool
overwritten q [] = false
overwritten q (p ∷ ps) = pick (same_place q p) true (overwritten q ps)

-- Each byte of the read at its place, with its pattern byte; "bytes past the counts, and bytes overwritten later by the same read are left".
unfoldable pub corrected : List (Option ℕ) → List ℕ → List ℕ → List ℕ
corrected [] xs st = st
corrected (p ∷ ps) [] st = st
corrected (p ∷ ps) (x ∷ xs) st = corrected ps xs (pick (overwritten p ps) st (mend p x st))
