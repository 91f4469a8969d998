-- What the readers of a field answer: the field at a place, by its tag and the places of its contents.
use Rattle.std.specs.Prelude.{ℕ, ◌+◌, ◌-◌, List, Option, Some, None, eqb, ltb, length, get_or}
use Rattle.base.specs.Choice.{pick, opt}
use Rattle.base.specs.Bytes.{be16_at}
use Rattle.fields.specs.declared.Field.{Field}

-- the field at a place, if a whole one stands there
unfoldable pub tagged_at : List ℕ → ℕ → Option Field
tagged_at s at =
    pick (ltb (length s - at) 3) None
    (pick (ltb (length s - (at + 3)) (be16_at s (at + 1))) None
    (Some (record { tag = get_or s at 0; start = at + 3; next = at + 3 + be16_at s (at + 1) })))

-- the field of one tag at a place, if it stands there
unfoldable pub wanted_at : List ℕ → ℕ → ℕ → Option Field
wanted_at s at tag = opt (tagged_at s at) None (λ f. pick (eqb f.tag tag) (Some f) None)
