-- The report, and question 4: "Is the report well formed?" (document 01, "Tagged fields", "Report")
use Rattle.std.specs.Prelude.{ℕ, Bool, ◌&&◌, List, [], ◌∷◌, eqb, length, get_or, Option, Some, None}
use Rattle.base.specs.Choice.{pick, opt}
use Rattle.base.specs.Bytes.{be16_at, be24_at}
use Rattle.fields.specs.Fields.{Field, fields_at}
use Rattle.channel.specs.declared.Csw.{Csw}
use Rattle.drive.specs.Step.{settable}

-- What the fields of a report say; sense has 24 bytes, the seek argument 6.
pub record Report : Type 0 where
  pub sense : List ℕ
  pub csw : Csw
  -- "address of the read's first CCW"
  pub first : ℕ
  -- "absent if none was set"
  pub mask : Option ℕ
  -- "user's seek argument"
  pub seek : Option (List ℕ)
  -- "tries made (1), absent is 0"
  pub tries : ℕ

-- the CSW in eight bytes
unfoldable pub csw_from : List ℕ → Csw
csw_from s = record { address = be24_at s 1; unit = get_or s 4 0; channel = get_or s 5 0; count = be16_at s 6 }

-- whether a field has this tag and n bytes of contents
unfoldable pub is_field : Field → ℕ → ℕ → Bool
is_field f tag n = eqb f.tag tag && eqb (length f.contents) n

-- "optional: 13 file mask ..; 14 user's seek argument (6); 15 tries made (1)", ascending, with nothing behind the last
unfoldable pub with_tries : Report → List Field → Option Report
with_tries r [] = Some r
with_tries r (f ∷ []) =
    pick (is_field f 0x15 1)
    (Some (record { sense = r.sense; csw = r.csw; first = r.first; mask = r.mask; seek = r.seek; tries = get_or f.contents 0 0 })) None
with_tries r (f ∷ g ∷ fs) = None

-- "14 user's seek argument (6)"
unfoldable pub with_seek : Report → List Field → Option Report
with_seek r [] = Some r
with_seek r (f ∷ fs) =
    pick (is_field f 0x14 6)
    (with_tries (record { sense = r.sense; csw = r.csw; first = r.first; mask = r.mask; seek = Some f.contents; tries = r.tries }) fs)
    (with_tries r (f ∷ fs))

-- "13 file mask (bits 2, 5 and 6 off)"
unfoldable pub with_mask : Report → List Field → Option Report
with_mask r [] = Some r
with_mask r (f ∷ fs) =
    pick (is_field f 0x13 1)
    (pick (settable (get_or f.contents 0 0))
    (with_seek (record { sense = r.sense; csw = r.csw; first = r.first; mask = Some (get_or f.contents 0 0); seek = r.seek; tries = r.tries }) fs)
    None)
    (with_seek r (f ∷ fs))

-- "ascending tags: 10 sense (24), 11 CSW (8, first 00), 12 address of the read's first CCW (2)"
unfoldable pub from_fields : List Field → Option Report
from_fields [] = None
from_fields (a ∷ []) = None
from_fields (a ∷ b ∷ []) = None
from_fields (a ∷ b ∷ c ∷ fs) =
    pick (is_field a 0x10 24 && (is_field b 0x11 8 && eqb (get_or b.contents 0 0) 0) && is_field c 0x12 2)
    (with_mask (record { sense = a.contents; csw = csw_from b.contents; first = be16_at c.contents 0; mask = None; seek = None; tries = 0 }) fs)
    None

-- the report that bytes are, if they are one
unfoldable pub report_from : List ℕ → Option Report
report_from s = opt (fields_at s 0) None from_fields
