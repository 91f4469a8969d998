-- Texts out of a list, a slash between each and the next.
use Rattle.std.specs.Prelude.{ℕ, ◌-◌, Bool, true, ◌&&◌, ◌||◌, List, [], ◌∷◌, eqb, ltb}
use Rattle.base.specs.Choice.{pick}

-- the bytes before the first slash
unfoldable pub up_to : List ℕ → List ℕ
up_to [] = []
up_to (b ∷ s) = pick (eqb b 0x2f) [] (b ∷ up_to s)

-- how many slashes are to be passed behind the byte b, where n are before it
unfoldable pub after : ℕ → ℕ → ℕ
after n b = pick (eqb b 0x2f) (n - 1) n

-- the bytes behind n slashes
unfoldable pub rest : ℕ → List ℕ → List ℕ
rest n [] = []
rest n (b ∷ s) = pick (eqb n 0) (b ∷ s) (rest (after n b) s)

-- the text with number i, counted from 0; nothing where the list has fewer
unfoldable pub item : ℕ → List ℕ → List ℕ
item i s = up_to (rest i s)

-- how many bytes may come behind the byte b in its text, where n may come before it and most in each text
unfoldable pub room_after : (most n b : ℕ) → ℕ
room_after most n b = pick (eqb b 0x2f) most (n - 1)

-- whether the first text has at most n bytes and each further one at most most
unfoldable pub short_from : (most n : ℕ) → List ℕ → Bool
short_from most n [] = true
short_from most n (b ∷ s) = (eqb b 0x2f || ltb 0 n) && short_from most (room_after most n b) s

-- whether each text of a list has at most so many bytes
unfoldable pub short : ℕ → List ℕ → Bool
short most s = short_from most most s
