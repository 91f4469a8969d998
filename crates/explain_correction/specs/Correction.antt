-- Lines of a correction by action 5.
use Rattle.std.specs.Prelude.{ℕ, ◌+◌, ◌-◌, ◌||◌, List, [], ◌∷◌, ◌++◌, eqb}
use Rattle.base.specs.Choice.{pick}
use Rattle.base.specs.Bytes.{be16_at, be24_at}
use Rattle.text.specs.Text.{ascii, number}

-- "The restart displacement counts from the front of the read to the end of the data area, .. the error displacement from that end."
unfoldable pub restart_line : List ℕ → List ℕ
restart_line sense = ascii "restart displacement" ++ number 10 5 (be24_at sense 15) ++ ascii ", from the front of the read to the end of the data area\n"

-- "18 and 19 error displacement", in decimal
unfoldable pub error_line : List ℕ → List ℕ
error_line sense = ascii "error displacement" ++ number 10 5 (be16_at sense 18) ++ ascii ", back from that end\n"

-- ---- the bytes of a storage of zeros that changed: those that are not 0 behind it

-- how many more may change behind the byte b, where n may
unfoldable pub left_after : ℕ → ℕ → ℕ
left_after n b = pick (eqb b 0) n (n - 1)

-- the line of the byte b at the address a, if it changed and n is not 0
unfoldable pub change_text : ℕ → ℕ → ℕ → List ℕ
change_text n a b =
    pick (eqb b 0 || eqb n 0) [] (ascii "storage byte" ++ number 16 4 a ++ ascii ": exclusive-or" ++ number 16 2 b ++ ascii "\n")

-- the lines of the first n that changed, the first byte having address a
unfoldable pub changes_from : ℕ → ℕ → List ℕ → List ℕ
changes_from n a [] = []
changes_from n a (b ∷ st) = change_text n a b ++ changes_from (left_after n b) (a + 1) st

-- a pattern has three bytes, and no more can change
unfoldable pub change_lines : List ℕ → List ℕ
change_lines st = changes_from 3 0 st

-- the two displacements of the sense bytes, then the bytes of storage that changed
unfoldable pub correction_text : (sense storage : List ℕ) → List ℕ
correction_text sense st = restart_line sense ++ error_line sense ++ change_lines st
