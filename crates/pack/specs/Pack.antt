-- The decoded pack: what the tagged fields of an image say (document 01, "Tagged fields", "Image").
-- Whether that is well formed is another matter: question 2, in the crate `image`.
use Rattle.std.specs.Prelude.{ℕ, ◌+◌, ◌&&◌, List, [], ◌∷◌, eqb, leb, length, get_or, Option, Some, None}
use Rattle.base.specs.Choice.{pick, opt}
use Rattle.base.specs.Bytes.{be16_at, part}
use Rattle.fields.specs.Fields.{Field, folded_at}
use Rattle.address.specs.declared.Address.{Address}
use Rattle.address.specs.Order.{same}

-- A record: the address and the number R of its count area, its key and its data. The lengths are those of key and data.
pub record Record : Type 0 where
  pub at : Address
  pub r : ℕ
  pub key : List ℕ
  pub body : List ℕ

-- "count area (cylinder 2, head 2, record number R, key length, data length 2), key, data"
unfoldable pub record_of : List ℕ → Option Record
record_of s =
    pick (leb 8 (length s) && eqb (length s) (8 + get_or s 5 0 + be16_at s 6))
    (Some (record {
      at = record { cylinder = be16_at s 0; head = be16_at s 2 };
      r = get_or s 4 0;
      key = part s 8 (8 + get_or s 5 0);
      body = part s (8 + get_or s 5 0) (length s);
    }))
    None

-- "home address (5: flag 00, cylinder 2, 00, head)"
unfoldable pub home_of : List ℕ → Option Address
home_of s =
    pick (eqb (length s) 5 && eqb (get_or s 0 0) 0 && eqb (get_or s 3 0) 0)
    (Some (record { cylinder = be16_at s 1; head = get_or s 4 0 }))
    None

-- A track: its home address, and its records in the order of the image.
pub record Track : Type 0 where
  pub at : Address
  pub records : List Record

-- What fields decode to: the records that stand before the first home address, and the tracks from there on.
pub record Decoded : Type 0 where
  pub records : List Record
  pub tracks : List Track

-- a record in front of what is decoded
unfoldable pub led_by_record : Record → Decoded → Decoded
led_by_record x d = record { records = x ∷ d.records; tracks = d.tracks }

-- a home address in front of it: the records that follow are its track's
unfoldable pub led_by_home : Address → Decoded → Decoded
led_by_home a d = record { records = []; tracks = record { at = a; records = d.records } ∷ d.tracks }

-- "Image: 01 home address .., then 02 per record"
unfoldable pub led_by : Field → Decoded → Option Decoded
led_by f d =
    pick (eqb f.tag 1) (opt (home_of f.contents) None (λ a. Some (led_by_home a d)))
    (pick (eqb f.tag 2) (opt (record_of f.contents) None (λ x. Some (led_by_record x d)))
    None)

-- what no fields at all decode to
abbrev pub nothing : Decoded
nothing = record { records = []; tracks = [] }

-- what the bytes from a place on decode to; none where a field is neither a home address nor a record
unfoldable pub decode_at : List ℕ → ℕ → Option Decoded
decode_at s at = folded_at led_by nothing s at

-- the pack of an image: its tracks; no tracks where the bytes do not decode
unfoldable pub pack_of : List ℕ → List Track
pack_of s = opt (decode_at s 0) [] (λ d. d.tracks)

-- the track with an address
unfoldable pub track_in : List Track → Address → Option Track
track_in [] a = None
track_in (t ∷ ts) a = pick (same t.at a) (Some t) (track_in ts a)

-- the first record with a number
unfoldable pub numbered : List Record → ℕ → Option Record
numbered [] r = None
numbered (x ∷ xs) r = pick (eqb x.r r) (Some x) (numbered xs r)

-- the record of a pack with an address and a number
unfoldable pub record_in : List Track → Address → ℕ → Option Record
record_in ts a r = opt (track_in ts a) None (λ t. numbered t.records r)
