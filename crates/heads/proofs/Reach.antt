-- Where multitrack commands reach, by the tests of the code.
--   step_ends, step_protected, step_reaches    a step to the next head
--   step_made                                  what a step that was made tells
--   search_off, search_here, search_on         a search
--   past_later, past_first, past_lost          where the records other than R0 come next
--   read_off, read_here, read_fails, read_on   a read, with one turn more left than m
--   take_just, take_on                         a read, by what was just passed
--   failed                                     what is not reached fails by a check
use Rattle.std.specs.Prelude.{Some, None}
use Prim.Native.Nat.{ℕ, suc, ◌+◌, ◌-◌, ◌<◌, ◌≤◌}
use native.Mathlib.Omega.{arith}
use mathlib.Core.Path.{◌≡◌, refl, ap}
use mathlib.Core.Bool.{Bool, true, false, ◌&&◌}
use mathlib.Core.List.{List, [], ◌∷◌}
use mathlib.Core.Logic.{inl, inr}
use lib.Dec.{ltb}
use lib.ListN.{length}
use types.Run.{OneOf}
use denote.Enum.Declared
use borrow.Author.Tests.{lt-ltb, le-ltb, ltb-true, eq-eqb, ne_eqb}
use Rattle.base.specs.Choice.{pick, opt}
use Rattle.base.proofs.Choice.{split}
use Rattle.pack.specs.declared.Place.{Place}
use Rattle.pack.specs.Pack.{Track, track_in}
use Rattle.pack.specs.Places.{record_at, Within}
use Rattle.drive.specs.Drive as Abstract
use Rattle.drive.specs.Drive.{passes_index, past_zero}
use Rattle.drive.specs.Step as Step
use Rattle.position.specs.declared.Drive.{Drive}
use Rattle.position.specs.Standing.{Sound}
use Rattle.position.proofs.Image.{begun}
use Rattle.position.proofs.Places.{spotted, ended}
use Rattle.heads.specs.declared.Reached.{Reached}
use Rattle.heads.specs.contracts.Reached as ReachedType
use Rattle.heads.specs.declared.Reached.TheVariants.{Reaches, NotFound, Protected, EndOfCylinder}
use Rattle.heads.specs.Reached.{reached_of}
use Rattle.heads.specs.Heads.{PastZero}

-- ---- a step

module _ (x : Abstract.Drive) where
  pub step_ends : 18 ≤ x.at.head → Step.fails Step.end_of_cylinder ≡ Step.stepped x
  unfolding Step.stepped pick
  step_ends h = rw (le-ltb _ _ h)

  pub step_protected : x.at.head < 18 → Step.protects_step x.mask ≡ true → Step.fails (Step.protected_step x.at.head) ≡ Step.stepped x
  unfolding Step.stepped pick
  step_protected h e = rw (lt-ltb _ _ h, e)

  pub step_reaches : x.at.head < 18 → Step.protects_step x.mask ≡ false → (y : Abstract.Drive) → y ≡ Step.next_head x → Step.reaches y ≡ Step.stepped x
  unfolding Step.stepped pick
  step_reaches h e y q = rw (lt-ltb _ _ h, e, q)

  pub step_made : (y : Abstract.Drive) → Step.reaches y ≡ Step.stepped x → (x.at.head < 18) × (y.at.head ≡ x.at.head + 1)
  unfolding Step.stepped Step.next_head Abstract.at_index pick
  step_made y e =
      split (ltb x.at.head 18)
      (λ h.
      split (Step.protects_step x.mask)
      (λ p. let v : Step.reaches y ≡ Step.fails (Step.protected_step x.at.head) = rw (h, p) at e in let z : ◌≡◌ {A = ℕ} 0 1 = cc in absurd (omega arith))
      (λ p. let v : Step.reaches y ≡ Step.reaches (Step.next_head x) = rw (h, p) at e in let q : y ≡ Step.next_head x = cc in (ltb-true _ _ h, ap (λ (d : Abstract.Drive). d.at.head) q)))
      (λ h. let v : Step.reaches y ≡ Step.fails Step.end_of_cylinder = rw h at e in let z : ◌≡◌ {A = ℕ} 0 1 = cc in absurd (omega arith))

-- ---- a search

module _ (pack : List Track) (x : Abstract.Drive) where
  pub search_off : track_in pack x.at ≡ None → Step.fails Step.not_found ≡ Step.search_from pack x
  unfolding Step.search_from opt
  search_off h = rw h

  module _ (t : Track) (h : track_in pack x.at ≡ Some t) where
    pub search_here : x.next < length t.records → Step.reaches x ≡ Step.search_from pack x
    unfolding Step.search_from passes_index opt pick
    search_here i = rw (h, lt-ltb _ _ i)

    pub search_on : length t.records ≤ x.next → (r : Step.Reached) → r ≡ Step.stepped x → r ≡ Step.search_from pack x
    unfolding Step.search_from passes_index opt pick
    search_on i r e = rw (h, le-ltb _ _ i) e

-- ---- behind R0

module _ (image : List ℕ) (d : Drive) where
  pub past_later : (d.next ≡ 0 → ⊥) → PastZero image d d.here
  unfolding past_zero pick
  past_later n = λ t o. rw (ne_eqb _ _ n) (o.ahead, o.near)

  module _ (e : d.next ≡ 0) where
    pub past_first : (zero : Place) → record_at image d.here ≡ Some zero → Within image zero → PastZero image d zero.next
    unfolding past_zero pick
    past_first zero h w = λ t o.
        let x = spotted image t d.next d.here o.ahead zero o.near h w in
        let p : past_zero d.next ≡ d.next + 1 = rw (eq-eqb _ _ e) (omega arith) in
        rw p (x.ahead, omega (arith, x.near, x.far))

    pub past_lost : Sound image → record_at image d.here ≡ None → PastZero image d d.here
    past_lost s h = λ t o.
        let a = ended image t d.next d.here o.ahead h in
        let b = begun s d.at t o.there in
        absurd (omega arith)

-- ---- a read

module _ (pack : List Track) (m : ℕ) (x : Abstract.Drive) where
  pub read_off : track_in pack x.at ≡ None → Step.fails Step.not_found ≡ Step.read_from pack (suc m) x
  unfolding Step.read_from opt
  read_off h = rw h

  module _ (t : Track) (h : track_in pack x.at ≡ Some t) where
    pub read_here : past_zero x.next < length t.records → Step.reaches x ≡ Step.read_from pack (suc m) x
    unfolding Step.read_from passes_index opt pick
    read_here i = rw (h, lt-ltb _ _ i)

    module _ (i : length t.records ≤ past_zero x.next) where
      pub read_fails : (k : Step.Check) → Step.fails k ≡ Step.stepped x → Step.fails k ≡ Step.read_from pack (suc m) x
      unfolding Step.read_from Step.on_reached passes_index opt pick
      read_fails k e = rw (h, le-ltb _ _ i, ← e)

      read_behind : (y : Abstract.Drive) → Step.reaches y ≡ Step.stepped x → Step.read_from pack m y ≡ Step.read_from pack (suc m) x
      unfolding Step.read_from Step.on_reached passes_index opt pick
      read_behind y e = rw (h, le-ltb _ _ i, ← e)

      pub read_on : 0 < m → (y : Abstract.Drive) → Step.reaches y ≡ Step.stepped x → Step.read_from pack (suc (m - 1)) y ≡ Step.read_from pack (suc m) x
      read_on l y e = let n : suc (m - 1) ≡ m = omega arith in rw n (read_behind y e)

module _ (pack : List Track) (just : Bool) (x : Abstract.Drive) where
  pub take_just : (just && x.passed) ≡ true → Step.reaches x ≡ Step.take_from pack just x
  unfolding Step.take_from pick
  take_just h = rw h

  pub take_on : (just && x.passed) ≡ false → (r : Step.Reached) → r ≡ Step.read_from pack 19 x → r ≡ Step.take_from pack just x
  unfolding Step.take_from pick
  take_on h r e = rw h e

-- ---- failures

no_reach : (x : ℕ) → OneOf (1 ∷ 2 ∷ 3 ∷ []) x → x ≡ 0 → ⊥
no_reach x (inl e) f = omega arith
no_reach x (inr (inl e)) f = omega arith
no_reach x (inr (inr e)) f = omega arith

pub failed : (r : Reached) → OneOf (1 ∷ 2 ∷ 3 ∷ []) (Declared.tag_of ReachedType.the_type r) → (k : Step.Check) × (reached_of r ≡ Step.fails k)
failed (Reaches d) o = absurd (no_reach _ o refl)
failed NotFound o = (Step.not_found, refl)
failed (Protected d) o = (Step.protected_step d.at.head, refl)
failed EndOfCylinder o = (Step.end_of_cylinder, refl)
