-- The drive's state, and where it stands on a track (document 01, "Drive").
use Rattle.std.specs.Prelude.{ℕ, ◌+◌, ◌-◌, Bool, true, false, ◌&&◌, List, [], ◌∷◌, ◌++◌, eqb, ltb, length, Option, None}
use Rattle.base.specs.Choice.{pick}
use Rattle.base.specs.Bytes.{two}
use Rattle.address.specs.declared.Address.{Address}
use Rattle.pack.specs.Pack.{Record, Track}

-- A place on a track is a number of records: the record at place 0 is R0.
pub record Drive : Type 0 where
  pub at : Address
  -- the place of the count area that comes next; as many as there are records where the index comes first
  pub next : ℕ
  -- whether the count area before it was just passed
  pub passed : Bool
  -- how often searches passed the index since the last control, read or equal search
  pub passes : ℕ
  -- the file mask, if one was set
  pub mask : Option ℕ

-- "A run starts at cylinder 0, head 0, at the index, with no mask."
unfoldable pub initial : Drive
initial = record { at = record { cylinder = 0; head = 0 }; next = 0; passed = false; passes = 0; mask = None }

-- "Control commands and 1A put the drive at the index."
unfoldable pub at_index : Address → Option ℕ → Drive
at_index a m = record { at = a; next = 0; passed = false; passes = 0; mask = m }

-- behind the count area at a place (`passed`), or behind the whole record
unfoldable pub moved_past : Drive → ℕ → Bool → ℕ → Drive
moved_past d place passed passes = record { at = d.at; next = place + 1; passed = passed; passes = passes; mask = d.mask }

-- ---- around the track

-- What lies behind the last record of a track of n records: the index, and then R0 again.
unfoldable pub turn : ℕ → ℕ → ℕ
turn n place = pick (ltb place n) place 0

-- whether the index is passed on the way to the count area that comes next
unfoldable pub passes_index : ℕ → ℕ → Bool
passes_index n place = pick (ltb place n) false true

-- "the next record other than R0", "Reads go round the same track"
unfoldable pub past_zero : ℕ → ℕ
past_zero place = pick (eqb place 0) 1 place

-- the place of the record that a read takes: of 06 and 0E (`just`) "the record whose count area was just passed",
-- else "the next record other than R0"
unfoldable pub taken : Bool → Drive → ℕ → ℕ
taken just d n = pick (just && d.passed) (d.next - 1) (past_zero (turn n d.next))

-- ---- bytes on a track

-- cylinder 2, head 2
unfoldable pub address_bytes : Address → List ℕ
address_bytes a = two a.cylinder ++ two a.head

-- what a search ID compares: cylinder 2, head 2, R
unfoldable pub identifier : Record → List ℕ
identifier x = address_bytes x.at ++ x.r ∷ []

-- "count area (cylinder 2, head 2, record number R, key length, data length 2)"
unfoldable pub count_area : Record → List ℕ
count_area x = identifier x ++ length x.key ∷ two (length x.body)

-- "home address (5: flag 00, cylinder 2, 00, head)"
unfoldable pub home_address : Track → List ℕ
home_address t = 0 ∷ address_bytes t.at

-- what a lookup behind the last record gives; on the tracks of a well formed image there is no such lookup
abbrev pub no_record : Record
no_record = record { at = record { cylinder = 0; head = 0 }; r = 0; key = []; body = [] }

-- as many bytes, and each the same
unfoldable pub same_bytes : List ℕ → List ℕ → Bool
same_bytes [] [] = true
same_bytes [] (y ∷ ys) = false
same_bytes (x ∷ xs) [] = false
same_bytes (x ∷ xs) (y ∷ ys) = eqb x y && same_bytes xs ys
