-- The fault list, and question 3: "Is each fault well formed and its record in the image?"
-- (document 01, "Tagged fields", "Fault list")
use Rattle.std.specs.Prelude.{ℕ, Bool, true, false, ◌&&◌, List, [], ◌∷◌, eqb, ltb, leb, length, get_or, Option, Some, None, Result, Ok, Err}
use Rattle.base.specs.Choice.{pick, opt}
use Rattle.base.specs.Bytes.{be16_at, part}
use Rattle.fields.specs.Fields.{Field, folded_at}
use Rattle.questions.specs.Areas.{image_fits, faults_fit}
use Rattle.address.specs.declared.Address.{Address}
use Rattle.address.specs.declared.Model.{Model}
use Rattle.address.specs.Model.{last_of}
use Rattle.address.specs.Order.{same}
use Rattle.pack.specs.Pack.{Track, pack_of, record_in}
use Rattle.image.specs.Image.{well_formed}
use Rattle.questions.specs.declared.Question.{Question}

-- A fault: the record that it names, the error displacement, counted back from the end of the data area, and the three pattern bytes.
pub record Fault : Type 0 where
  pub at : Address
  pub r : ℕ
  pub displacement : ℕ
  pub pattern : List ℕ

-- "20 (10: cylinder 2, head 2, R from 1, error displacement 2, pattern 3)"
unfoldable pub fault_of : Field → Option Fault
fault_of f =
    let s = f.contents in
    pick (eqb f.tag 0x20 && eqb (length s) 10)
    (Some (record { at = record { cylinder = be16_at s 0; head = be16_at s 2 }; r = get_or s 4 0; displacement = be16_at s 5; pattern = part s 7 10 }))
    None

-- a fault in front of others
unfoldable pub led_by_fault : Field → List Fault → Option (List Fault)
led_by_fault f fs = opt (fault_of f) None (λ x. Some (x ∷ fs))

-- the faults that the bytes from a place on are; none where a field is no fault
unfoldable pub faults_at : List ℕ → ℕ → Option (List Fault)
faults_at s at = folded_at led_by_fault [] s at

-- the fault that names a record
unfoldable pub naming : List Fault → Address → ℕ → Option Fault
naming [] a r = None
naming (f ∷ fs) a r = pick (same f.at a && eqb f.r r) (Some f) (naming fs a r)

-- whether there is nothing, as where no fault names a record
unfoldable pub missing : {A : Type 0} → Option A → Bool
missing None = true
missing (Some a) = false

-- "R from 1", "its record in the image", "the displacement is 1 to the data length"
unfoldable pub sound_fault : List Track → Fault → Bool
sound_fault ts f =
    ltb 0 f.r && opt (record_in ts f.at f.r) false (λ x. leb 1 f.displacement && leb f.displacement (length x.body))

-- "One per record at most": no later fault names the same record
unfoldable pub sound_faults : List Track → List Fault → Bool
sound_faults ts [] = true
sound_faults ts (f ∷ fs) = sound_fault ts f && missing (naming fs f.at f.r) && sound_faults ts fs

-- whether the bytes from a place on are a sound list for a pack
unfoldable pub sound_from : List Track → List ℕ → ℕ → Bool
sound_from ts s at = opt (faults_at s at) false (sound_faults ts)

-- Questions 1, 2 and 3, for an image and a fault list.
unfoldable pub faults_answer : Model → List ℕ → List ℕ → Result Unit Question
faults_answer m image s =
    pick (image_fits (length image) && faults_fit (length s))
    (pick (well_formed (last_of m) image)
    (pick (sound_from (pack_of image) s 0) (Ok tt) (Err Question.Faults))
    (Err Question.Image))
    (Err Question.Areas)
