-- The parts of the input of the program `explain`: field 30 with a chain, a report's fields, field 32 with an extent, and nothing behind it.
use Rattle.std.specs.Prelude.{ℕ, zero, suc, List, eqb, leb, length, drop, Option, Some, None}
use Rattle.base.specs.Choice.{pick, opt}
use Rattle.base.specs.Bytes.{part}
use Rattle.fields.specs.TaggedAt.{tagged_at, wanted_at}
use Rattle.explain_input.specs.declared.Last.{Last}

-- the contents of the two fields, and the bytes between them
pub record Parts : Type 0 where
  pub chain : List ℕ
  pub report : List ℕ
  pub extent : List ℕ

-- The first field with tag 32 from a place on, and its own place; none where a field before it is torn, or none of the first n has that tag.
unfoldable pub last_up_to : ℕ → List ℕ → ℕ → Option Last
last_up_to zero s at = None
last_up_to (suc n) s at =
    opt (tagged_at s at) None (λ f. pick (eqb f.tag 0x32) (Some (record { at = at; field = f })) (last_up_to n s f.next))

-- as many fields as bytes are enough
unfoldable pub last_at : List ℕ → ℕ → Option Last
last_at s at = last_up_to (length s) s at

-- The report is what stands between the two fields. More than 60,000 bytes, a 30 or 32 that is missing or torn, or bytes behind the 32:
-- nothing, which is refusal 1.
unfoldable pub parts_of : List ℕ → Option Parts
parts_of s =
    pick (leb (length s) 60000)
    (opt (wanted_at s 0 0x30) None λ chain.
    opt (last_at s chain.next) None λ last.
    pick (eqb last.field.next (length s))
    (Some (record { chain = part s chain.start chain.next; report = part s chain.next last.at; extent = drop last.field.start s }))
    None)
    None
