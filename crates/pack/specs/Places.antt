-- Home addresses and records by their places in the bytes of an image: what the code that looks them up answers.
-- The laws in proofs/Decode tie them to the decoded pack.
use Rattle.std.specs.Prelude.{ℕ, ◌+◌, ◌-◌, ◌<◌, ◌≤◌, ◌≡◌, Bool, false, ◌&&◌, List, ◌∷◌, ◌++◌, eqb, leb, length, get_or, Option, Some, None}
use Rattle.base.specs.Choice.{pick, opt}
use Rattle.base.specs.Bytes.{be16_at, part}
use Rattle.fields.specs.declared.Field.{Field}
use Rattle.fields.specs.TaggedAt.{tagged_at}
use Rattle.address.specs.declared.Address.{Address}
use Rattle.address.specs.Order.{same}
use Rattle.pack.specs.declared.Home.{Home}
use Rattle.pack.specs.declared.Place.{Place}
use Rattle.pack.specs.Pack.{Record, Track, Decoded, decode_at, track_in, numbered}

-- ---- a home address

-- a field whose contents have a home address's form
unfoldable pub is_home : List ℕ → Field → Bool
is_home s f = eqb (f.next - f.start) 5 && eqb (get_or s f.start 0) 0 && eqb (get_or s (f.start + 3) 0) 0

-- the home address that a field is, if it is one
unfoldable pub home_in : List ℕ → Field → Option Home
home_in s f =
    pick (eqb f.tag 1 && is_home s f)
    (Some (record { at = record { cylinder = be16_at s (f.start + 1); head = get_or s (f.start + 4) 0 }; next = f.next }))
    None

-- the home address whose field begins at a place of the image, if one does
unfoldable pub home_at : List ℕ → ℕ → Option Home
home_at s at = opt (tagged_at s at) None (home_in s)

-- whether a field is the home address of a track
unfoldable pub is_track : List ℕ → Field → Address → Bool
is_track s f a = opt (home_in s f) false (λ h. same h.at a)

-- ---- a record

-- a field whose contents have a record's form
unfoldable pub is_record : List ℕ → Field → Bool
is_record s f = leb 8 (f.next - f.start) && eqb (f.next - f.start) (8 + get_or s (f.start + 5) 0 + be16_at s (f.start + 6))

-- the places of the record that such a field is
unfoldable pub placed : List ℕ → Field → Place
placed s f = record {
  at = record { cylinder = be16_at s f.start; head = be16_at s (f.start + 2) };
  r = get_or s (f.start + 4) 0;
  key = f.start + 8;
  body = f.start + 8 + get_or s (f.start + 5) 0;
  next = f.next;
}

-- the record that a field is, if it is one
unfoldable pub place_in : List ℕ → Field → Option Place
place_in s f = pick (eqb f.tag 2 && is_record s f) (Some (placed s f)) None

-- the record whose field begins at a place of the image, if one does
unfoldable pub record_at : List ℕ → ℕ → Option Place
record_at s at = opt (tagged_at s at) None (place_in s)

-- Where a record lies, and what its bytes can hold: R and the key's length are in one byte, the data's length in two.
pub record Within (s : List ℕ) (p : Place) : Type 0 where
  pub number : p.r < 256
  pub key_first : p.key ≤ p.body
  pub key_short : p.body < p.key + 256
  pub body_first : p.body ≤ p.next
  pub body_short : p.next < p.body + 65536
  pub inside : p.next ≤ length s

-- the same where a record was found
abbrev pub Bounded : List ℕ → Option Place → Type 0
Bounded s None = Unit {0}
Bounded s (Some p) = Within s p

-- the record at a place, with the bytes of its key and data
unfoldable pub record_from : List ℕ → Place → Record
record_from s p = record { at = p.at; r = p.r; key = part s p.key p.body; body = part s p.body p.next }

-- ---- lookups in an image that decodes

-- Where a search for a track ends: at the place from which the records of that track stand, between the tracks before and behind it; or nowhere.
abbrev pub TrackFound : List ℕ → Address → Option ℕ → Type 0
TrackFound s a (Some at) =
    (d : Decoded) → decode_at s 0 ≡ Some d →
    (t : Track) × (e : Decoded) × (track_in d.tracks a ≡ Some t) × (decode_at s at ≡ Some e) × (e.records ≡ t.records)
    × (front : List Track) × (d.tracks ≡ front ++ t ∷ e.tracks)
TrackFound s a None = (d : Decoded) → decode_at s 0 ≡ Some d → track_in d.tracks a ≡ None

-- Where a search for a record number ends, from a place on: at the first record with that number before the next home address, or nowhere.
abbrev pub RecordFound : List ℕ → ℕ → ℕ → Option Place → Type 0
RecordFound s at r (Some p) = (d : Decoded) → decode_at s at ≡ Some d → numbered d.records r ≡ Some (record_from s p)
RecordFound s at r None = (d : Decoded) → decode_at s at ≡ Some d → numbered d.records r ≡ None
