-- Faults by their places in a fault list: what the code that reads them answers.
use Rattle.std.specs.Prelude.{ℕ, ◌+◌, ◌-◌, ◌≡◌, Bool, ◌&&◌, not, List, [], ◌∷◌, eqb, get_or, Option, Some, None}
use Rattle.base.specs.Choice.{pick, opt}
use Rattle.base.specs.Bytes.{be16_at}
use Rattle.fields.specs.declared.Field.{Field}
use Rattle.fields.specs.TaggedAt.{tagged_at}
use Rattle.address.specs.declared.Address.{Address}
use Rattle.address.specs.Order.{same}
use Rattle.pack.specs.Pack.{Decoded, decode_at}
use Rattle.faults.specs.declared.Listed.{Listed}
use Rattle.faults.specs.Faults.{Fault, faults_at, naming, missing, sound_fault, sound_from}

-- the fault that a field's contents are
unfoldable pub listed : List ℕ → Field → Listed
listed s f = record {
  at = record { cylinder = be16_at s f.start; head = be16_at s (f.start + 2) };
  r = get_or s (f.start + 4) 0;
  displacement = record { 0 = be16_at s (f.start + 5) };
  first = get_or s (f.start + 7) 0;
  second = get_or s (f.start + 8) 0;
  third = get_or s (f.start + 9) 0;
  next = f.next;
}

-- the fault that a field is, if it is one
unfoldable pub fault_in : List ℕ → Field → Option Listed
fault_in s f = pick (eqb f.tag 0x20 && eqb (f.next - f.start) 10) (Some (listed s f)) None

-- the fault whose field begins at a place of the list, if one does
unfoldable pub fault_at : List ℕ → ℕ → Option Listed
fault_at s at = opt (tagged_at s at) None (fault_in s)

-- the fault that was read
unfoldable pub fault_from : Listed → Fault
fault_from l = record { at = l.at; r = l.r; displacement = l.displacement.0; pattern = l.first ∷ l.second ∷ l.third ∷ [] }

-- whether a fault that was read names a record
unfoldable pub named : Listed → Address → ℕ → Bool
named l a r = same l.at a && eqb l.r r

-- Where a search for a record's fault ends, from a place on.
abbrev pub FaultFound : List ℕ → ℕ → Address → ℕ → Option Listed → Type 0
FaultFound s at a r (Some l) = (fs : List Fault) → faults_at s at ≡ Some fs → naming fs a r ≡ Some (fault_from l)
FaultFound s at a r None = (fs : List Fault) → faults_at s at ≡ Some fs → naming fs a r ≡ None

-- Whether a list names a record, from a place on.
abbrev pub NamedFrom : List ℕ → ℕ → Address → ℕ → Bool → Type 0
NamedFrom s at a r b = (fs : List Fault) → faults_at s at ≡ Some fs → not b ≡ missing (naming fs a r)

-- Whether a fault is sound in an image that decodes.
abbrev pub FaultSound : List ℕ → Listed → Bool → Type 0
FaultSound image l b = (d : Decoded) → decode_at image 0 ≡ Some d → b ≡ sound_fault d.tracks (fault_from l)

-- The same of the whole list. For an image that does not decode nothing is said of the answer.
abbrev pub FaultsSound : List ℕ → List ℕ → Bool → Type 0
FaultsSound image s b = (d : Decoded) → decode_at image 0 ≡ Some d → b ≡ sound_from d.tracks s 0
