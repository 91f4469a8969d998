-- One fault, and the list: what each test of the check tells of question 3.
use Rattle.std.specs.Prelude.{Some, None}
use Prim.Native.Nat.{ℕ, ◌<◌, ◌≤◌}
use native.Mathlib.Omega.{arith}
use mathlib.Core.Path.{◌≡◌, refl, sym, ◌∙◌}
use mathlib.Core.Bool.{Bool, true, false, ◌&&◌}
use mathlib.Core.List.{List, ◌∷◌}
use lib.Dec.{leb}
use lib.ListN.{length}
use borrow.Author.Tests.{lt-ltb, le-ltb, le-leb, lt-leb}
use Rattle.base.specs.Choice.{opt}
use Rattle.base.proofs.Choice.{found_if, opt_opt, opt_const}
use Rattle.pack.specs.Pack.{Record, Track, Decoded, decode_at, pack_of, track_in, numbered, record_in}
use Rattle.image.specs.Image.{well_formed}
use Rattle.image.proofs.Pass.{decodes}
use Rattle.faults.specs.declared.Listed.{Listed}
use Rattle.faults.specs.Faults.{Fault, faults_at, naming, missing, sound_fault, sound_faults, sound_from}
use Rattle.faults.specs.FaultAt.{fault_at, fault_from}
use Rattle.faults.proofs.Places.{faults_end, faults_on, faults_none}

-- ---- one fault

module _ (ts : List Track) (l : Listed) where
  pub fault_zero : l.r ≡ 0 → false ≡ sound_fault ts (fault_from l)
  unfolding sound_fault fault_from
  fault_zero e = rw (le-ltb 0 l.r (omega arith))

  module _ (h : l.r ≡ 0 → ⊥) where
    positive : 0 < l.r
    positive = omega arith

    pub fault_trackless : track_in ts l.at ≡ None → false ≡ sound_fault ts (fault_from l)
    unfolding sound_fault fault_from record_in opt
    fault_trackless e = rw (lt-ltb 0 l.r positive, e)

    module _ (t : Track) (e : track_in ts l.at ≡ Some t) where
      pub fault_recordless : numbered t.records l.r ≡ None → false ≡ sound_fault ts (fault_from l)
      unfolding sound_fault fault_from record_in opt
      fault_recordless f = rw (lt-ltb 0 l.r positive, e, f)

      module _ (x : Record) (f : numbered t.records l.r ≡ Some x) where
        pub fault_at_end : l.displacement.0 < 1 → false ≡ sound_fault ts (fault_from l)
        unfolding sound_fault fault_from record_in opt
        fault_at_end g = rw (lt-ltb 0 l.r positive, e, f, lt-leb _ _ g)

        pub fault_inside : 1 ≤ l.displacement.0 → (n : ℕ) → n ≡ length x.body → leb l.displacement.0 n ≡ sound_fault ts (fault_from l)
        unfolding sound_fault fault_from record_in opt
        fault_inside g n q = rw (lt-ltb 0 l.r positive, e, f, le-leb _ _ g, q)

-- ---- the list

module _ (ts : List Track) (s : List ℕ) (at : ℕ) where
  pub sound_end : length s ≤ at → sound_from ts s at ≡ true
  unfolding sound_from sound_faults opt
  sound_end h = rw (faults_end s at h)

  pub sound_none : at < length s → fault_at s at ≡ None → sound_from ts s at ≡ false
  unfolding sound_from opt
  sound_none h e = rw (faults_none s at h e)

  module _ (l : Listed) (e : fault_at s at ≡ Some l) where
    led : List Fault → Bool
    led fs = sound_fault ts (fault_from l) && missing (naming fs l.at l.r) && sound_faults ts fs

    sound_led : sound_from ts s at ≡ opt (faults_at s l.next) false led
    unfolding sound_from led opt sound_faults fault_from
    sound_led = rw (faults_on s at l e, opt_opt (faults_at s l.next) (λ fs. Some (fault_from l ∷ fs)) false (sound_faults ts))

    pub sound_unsound : sound_fault ts (fault_from l) ≡ false → sound_from ts s at ≡ false
    unfolding led
    sound_unsound q = sound_led ∙ opt_const (faults_at s l.next) (λ fs _. rw q)

    module _ (q : sound_fault ts (fault_from l) ≡ true) where
      pub sound_again : ((fs : List Fault) → faults_at s l.next ≡ Some fs → false ≡ missing (naming fs l.at l.r)) → sound_from ts s at ≡ false
      unfolding led
      sound_again m = sound_led ∙ opt_const (faults_at s l.next) (λ fs h. rw (q, ← (m fs h)))

      pub sound_on : ((fs : List Fault) → faults_at s l.next ≡ Some fs → true ≡ missing (naming fs l.at l.r)) → sound_from ts s at ≡ sound_from ts s l.next
      unfolding led sound_from
      sound_on m = sound_led ∙ found_if (faults_at s l.next) refl (λ fs h. rw (q, ← (m fs h)))

-- in a well formed image the list is sound as it was found to be
pub sound_is : (last : ℕ) (image s : List ℕ) → well_formed last image ≡ true → {b v : Bool}
    → ((d : Decoded) → decode_at image 0 ≡ Some d → b ≡ sound_from d.tracks s 0) → b ≡ v → sound_from (pack_of image) s 0 ≡ v
unfolding pack_of opt
sound_is last image s w f e = let d = decodes last image w in rw d.1 (sym (f d.0 d.1) ∙ e)
