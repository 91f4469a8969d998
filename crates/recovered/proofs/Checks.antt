-- What recovery's tests come to.
--   no_data                        the commands that read no data area
--   other-address .. other-length  whether the CSW shows how the data chain ended
--   no-error .. sector-low         displacements and sector
--   two-off, check-off, check-none the CSW without unit check
use Prim.Native.Nat.{ℕ, ◌+◌, ◌-◌, ◌/◌, ◌%◌, ◌<◌, ◌≤◌}
use native.Mathlib.Omega.{arith}
use mathlib.Core.Path.{◌≡◌, refl, ap, sym, ◌∙◌}
use mathlib.Core.Bool.{Bool, true, false, not}
use mathlib.Core.List.{List, [], ◌∷◌}
use mathlib.Core.Logic.{inl, inr}
use lib.Dec.{ltb}
use lib.ListN.{get_or}
use types.Run.{OneOf}
use denote.Enum.Declared
use borrow.Author.Tests.{eq-eqb, ne_eqb, eqb-true, le-leb, lt-leb}
use Rattle.base.specs.Choice.{pick}
use Rattle.base.specs.Bits.{bit_on}
use Rattle.base.specs.Bytes.{be16_at, be24_at}
use Rattle.channel.specs.declared.Csw.{Csw}
use Rattle.channel.specs.declared.Location.{Location}
use Rattle.channel.specs.Ccw.{address_of}
use Rattle.drive.specs.declared.Command.{Command}
use Rattle.drive.specs.declared.Command.TheVariants.{NoOperation, Seek, SetMask, SetSector, SearchId, ReadHome, ReadRecord, SearchIdMultitrack, ReadMultitrack, Unlisted}
use Rattle.drive.specs.contracts.Command as CommandType
use Rattle.recovery.specs.Recovery as Recovery
use Rattle.recovery.specs.Recovery.{reads_data, less_unit_check, alike}

-- ---- the command

no_record : (x : ℕ) → OneOf (0 ∷ 1 ∷ 2 ∷ 3 ∷ 4 ∷ 5 ∷ 7 ∷ 9 ∷ []) x → (x ≡ 6 → ⊥) × (x ≡ 8 → ⊥)
no_record x (inl e) = (λ f. omega arith, λ f. omega arith)
no_record x (inr (inl e)) = (λ f. omega arith, λ f. omega arith)
no_record x (inr (inr (inl e))) = (λ f. omega arith, λ f. omega arith)
no_record x (inr (inr (inr (inl e)))) = (λ f. omega arith, λ f. omega arith)
no_record x (inr (inr (inr (inr (inl e))))) = (λ f. omega arith, λ f. omega arith)
no_record x (inr (inr (inr (inr (inr (inl e)))))) = (λ f. omega arith, λ f. omega arith)
no_record x (inr (inr (inr (inr (inr (inr (inl e))))))) = (λ f. omega arith, λ f. omega arith)
no_record x (inr (inr (inr (inr (inr (inr (inr e))))))) = (λ f. omega arith, λ f. omega arith)

pub no_data : (k : Command) → OneOf (0 ∷ 1 ∷ 2 ∷ 3 ∷ 4 ∷ 5 ∷ 7 ∷ 9 ∷ []) (Declared.tag_of CommandType.the_type k) → false ≡ reads_data k
unfolding reads_data
no_data NoOperation h = refl
no_data Seek h = refl
no_data SetMask h = refl
no_data SetSector h = refl
no_data SearchId h = refl
no_data ReadHome h = refl
no_data SearchIdMultitrack h = refl
no_data Unlisted h = refl
no_data (ReadRecord k) h = absurd ((no_record 6 h).0 refl)
no_data (ReadMultitrack k) h = absurd ((no_record 8 h).1 refl)

-- ---- the CSW

with_true : (x : Bool) → alike x true ≡ x
unfolding alike
with_true true = refl
with_true false = refl

with_false : (x : Bool) → alike x false ≡ not x
unfolding alike
with_false true = refl
with_false false = refl

module _ (w : Csw) (l : Location) (left : ℕ) (wrong : Bool) where
  pub other_address : (w.address ≡ address_of l + 8 → ⊥) → false ≡ Recovery.agrees w l left wrong
  unfolding Recovery.agrees
  other_address h = rw (ne_eqb w.address (address_of l + 8) h)

  module _ (h : w.address ≡ address_of l + 8) where
    pub other_count : (w.count ≡ left → ⊥) → false ≡ Recovery.agrees w l left wrong
    unfolding Recovery.agrees
    other_count g = rw (eq-eqb w.address (address_of l + 8) h, ne_eqb w.count left g)

    module _ (g : w.count ≡ left) where
      both_same : Recovery.agrees w l left wrong ≡ alike (bit_on 1 w.channel) wrong
      unfolding Recovery.agrees
      both_same = rw (eq-eqb w.address (address_of l + 8) h, eq-eqb w.count left g)

      pub wrong_length : (b : Bool) → b ≡ bit_on 1 w.channel → wrong ≡ true → b ≡ Recovery.agrees w l left wrong
      wrong_length b e f = e ∙ sym (both_same ∙ ap (alike (bit_on 1 w.channel)) f ∙ with_true (bit_on 1 w.channel))

      pub right_length : (b : Bool) → b ≡ bit_on 1 w.channel → wrong ≡ false → not b ≡ Recovery.agrees w l left wrong
      right_length b e f = ap not e ∙ sym (both_same ∙ ap (alike (bit_on 1 w.channel)) f ∙ with_false (bit_on 1 w.channel))

module _ (w : Csw) where
  pub two_off : bit_on 6 w.unit ≡ true → 2 ≤ w.unit
  unfolding bit_on
  two_off h = let e = eqb-true (w.unit / 2 % 2) 1 h in omega arith

  pub check_off : bit_on 6 w.unit ≡ true → record { address = w.address; unit = w.unit - 2; channel = w.channel; count = w.count } ≡ less_unit_check w
  unfolding less_unit_check pick
  check_off h = rw h

  pub check_none : bit_on 6 w.unit ≡ false → w ≡ less_unit_check w
  unfolding less_unit_check pick
  check_none h = rw h (same w.unit (omega arith))
    where
      same : (n : ℕ) → w.unit ≡ n - 0 → w ≡ record { address = w.address; unit = n - 0; channel = w.channel; count = w.count }
      same n e = rw (← e)

-- ---- displacements

module _ (sense : List ℕ) where
  pub no_error : be16_at sense 18 ≡ 0 → false ≡ Recovery.sensible sense
  unfolding Recovery.sensible
  no_error h = rw (eq-eqb (be16_at sense 18) 0 h)

  module _ (e : be16_at sense 18 ≡ 0 → ⊥) where
    pub too_long : 13038 < be24_at sense 15 → false ≡ Recovery.sensible sense
    unfolding Recovery.sensible
    too_long h = rw (ne_eqb (be16_at sense 18) 0 e, lt-leb (be24_at sense 15) 13038 h)

    module _ (f : be24_at sense 15 ≤ 13038) where
      pub too_far : be24_at sense 15 < be16_at sense 18 → false ≡ Recovery.sensible sense
      unfolding Recovery.sensible
      too_far h = rw (ne_eqb (be16_at sense 18) 0 e, le-leb (be24_at sense 15) 13038 f, lt-leb (be16_at sense 18) (be24_at sense 15) h)

      pub sector_low : be16_at sense 18 ≤ be24_at sense 15 → (n : ℕ) → n ≡ get_or sense 13 0 → ltb n 128 ≡ Recovery.sensible sense
      unfolding Recovery.sensible
      sector_low h n g = rw (ne_eqb (be16_at sense 18) 0 e, le-leb (be24_at sense 15) 13038 f, le-leb (be16_at sense 18) (be24_at sense 15) h, g)
