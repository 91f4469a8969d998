-- The tagged fields that bytes consist of (document 01, "Tagged fields").
use Rattle.std.specs.Prelude.{ℕ, zero, suc, ◌+◌, Bool, ◌&&◌, List, [], ◌∷◌, eqb, leb, length, get_or, drop, Option, Some, None}
use Rattle.base.specs.Choice.{pick, opt}
use Rattle.base.specs.Bytes.{be16_at, part}

-- "One-byte tag, two-byte length of what follows, contents."
pub record Field : Type 0 where
  pub tag : ℕ
  pub contents : List ℕ

-- whether bytes begin with a whole field
unfoldable pub begins : List ℕ → Bool
begins l = leb 3 (length l) && leb (3 + be16_at l 1) (length l)

-- the field that bytes begin with
unfoldable pub front : List ℕ → Field
front l = record { tag = get_or l 0 0; contents = part l 3 (3 + be16_at l 1) }

-- the bytes behind it
unfoldable pub after_front : List ℕ → List ℕ
after_front l = drop (3 + be16_at l 1) l

-- The fields that bytes consist of, one after the other with nothing between or behind them; none where they do not.
-- n is how many fields are looked for at most; as many as there are bytes are enough.
unfoldable pub fields_up_to : ℕ → List ℕ → Option (List Field)
fields_up_to zero l = pick (eqb (length l) 0) (Some []) None
fields_up_to (suc n) l =
    let rest = fields_up_to n (after_front l) in
    pick (eqb (length l) 0) (Some []) (pick (begins l) (opt rest None (λ fs. Some (front l ∷ fs))) None)

-- the fields from a place in the bytes on
unfoldable pub fields_at : List ℕ → ℕ → Option (List Field)
fields_at l at = fields_up_to (length l) (drop at l)

-- What fields come to, taken from the last to the first: `start` for none, and `step` puts a field in front of what those behind it came to.
unfoldable pub folded : {A : Type 0} → (Field → A → Option A) → A → List Field → Option A
folded step start [] = Some start
folded step start (f ∷ fs) = opt (folded step start fs) None (step f)

-- the same of the fields from a place in the bytes on
unfoldable pub folded_at : {A : Type 0} → (Field → A → Option A) → A → List ℕ → ℕ → Option A
folded_at step start s at = opt (fields_at s at) None (folded step start)
