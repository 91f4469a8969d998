-- Where the bytes of a read go, apart from what they are: places, and storage after them.
use Rattle.std.specs.Prelude.{ℕ, List, [], ◌∷◌, set, Option, Some, None}

-- one byte to its place; a skipped one goes nowhere
unfoldable pub put : Option ℕ → ℕ → List ℕ → List ℕ
put None b st = st
put (Some a) b st = set st a b

-- the bytes of a read, one after the other, as far as there are places
unfoldable pub store : List (Option ℕ) → List ℕ → List ℕ → List ℕ
store [] bs st = st
store (p ∷ ps) [] st = st
store (p ∷ ps) (b ∷ bs) st = store ps bs (put p b st)
