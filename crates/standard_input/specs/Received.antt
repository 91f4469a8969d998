-- What reading an input into an area ensures. An input that knows no bytes of its own, as standard input, is None: nothing is said of its bytes.
use Rattle.std.specs.Prelude.{ℕ, List, length, take, ◌≡◌, ◌≤◌, ⊤, Option, IfSome, Result, Ok, Err}
use Rattle.std.specs.Io.KnownBytes.{Consumes}

-- The bytes that were read lie in the area; nothing is said where a read failed.
abbrev pub Within : {E : Type 0} → Result ℕ E → List ℕ → Type 0
Within (Ok n) s = n ≤ length s
Within (Err e) s = ⊤

-- They are the first bytes of the input, as many as the area has room for or all.
abbrev pub IsFront : {E : Type 0} → Option (List ℕ) → Result ℕ E → List ℕ → Type 0
IsFront input (Ok n) s = IfSome input (λ xs. take n s ≡ take (length s) xs)
IsFront input (Err e) s = ⊤

-- The input has lost those bytes; where a read failed, so many as lie at the front of the area.
abbrev pub Leaves : {E : Type 0} → Option (List ℕ) → Option (List ℕ) → Result ℕ E → List ℕ → Type 0
Leaves input rest (Ok n) s = Consumes input rest (take n s)
Leaves input rest (Err e) s = (n : ℕ) × Consumes input rest (take n s)
