-- Reads of a record, from the tests that the code makes.
--   empty-read .. faultless-read  by what data area is taken, and whether a fault names it
--   none_taken, one_taken         the fault of the data area that is taken
--   not_empty                     that area has bytes
--   named_found                   the fault that was found names the record
--   read_none, read_taken         a read by what the drive takes
--   home_none, home_read          the home address
use Rattle.std.specs.Prelude.{Option, Some, None}
use Prim.Native.Nat.{ℕ, ◌-◌, ◌/◌, ◌%◌, ◌≤◌}
use native.Mathlib.Omega.{arith}
use mathlib.Core.Path.{◌≡◌, refl, ap, ap₂, ◌∙◌}
use mathlib.Core.Bool.{true, false, ◌&&◌}
use mathlib.Core.List.{List, [], ◌∷◌}
use lib.Dec.{eqb}
use lib.ListN.{length}
use borrow.Author.Tests.{eq-eqb, ne_eqb, eqb-false}
use Rattle.base.specs.Choice.{pick, opt}
use Rattle.base.specs.Bytes.{two}
use Rattle.base.proofs.Choice.{pick_true, pick_false, split}
use Rattle.pack.specs.declared.Place.{Place}
use Rattle.pack.specs.Pack.{Record, Track, pack_of, track_in}
use Rattle.pack.specs.Places.{record_from}
use Rattle.image.proofs.Sound.{track_sound}
use Rattle.faults.specs.declared.Listed.{Listed}
use Rattle.faults.specs.Faults.{Fault, faults_at, naming}
use Rattle.faults.specs.FaultAt.{fault_from, FaultFound}
use Rattle.channel.specs.declared.Ccw.{Ccw}
use Rattle.channel.specs.declared.Location.{Location}
use Rattle.channel.specs.Ccw.{Lent}
use Rattle.drive.specs.declared.Read.{Read}
use Rattle.drive.specs.Drive as Abstract
use Rattle.drive.specs.Drive.{address_bytes, home_address}
use Rattle.drive.specs.Step as Step
use Rattle.position.specs.declared.Drive.{Drive}
use Rattle.position.specs.Standing.{drive_of, TakesFor}
use Rattle.command.specs.declared.Answer.{Answer}
use Rattle.command.specs.Answer.{answer_of, Answers}
use Rattle.read_command.specs.Reads.{Formed, FaultTaken, FaultsInside, Ends, Carries, ReadsFaulted, ReadsBytes, plan_of, record_plan, Homes}

same_name : (fs : List Fault) (y : Record) (x : Place) (o : Option Fault) → y.at ≡ x.at → y.r ≡ x.r → naming fs x.at x.r ≡ o → naming fs y.at y.r ≡ o
same_name fs y x o a b e = ap₂ (naming fs) a b ∙ e

pub named_found : (faults : List ℕ) (k : Read) (x : Place) (n : ℕ) (f : Listed) → k.datas ≡ true → FaultsInside faults k x n → FaultFound faults 0 x.at x.r (Some f)
    → f.displacement.0 ≤ n
unfolding fault_from
named_found faults k x n f h i g = i.2 (fault_from f) h (g i.0 i.1)

module _ (faults : List ℕ) (k : Read) (x : Place) where
  pub none_taken : k.datas ≡ false → FaultTaken faults k x None
  none_taken e = λ h. let z : ◌≡◌ {A = ℕ} 0 1 = cc in absurd (omega arith)

  pub one_taken : (r : Option Listed) → k.datas ≡ true → FaultFound faults 0 x.at x.r r → FaultTaken faults k x r
  one_taken (Some f) h g = (h, g)
  one_taken None h g = λ _. g

pub not_empty : (k : Read) (x : Place) → k.datas ≡ true → (k.datas && eqb x.body x.next) ≡ false → x.body ≡ x.next → ⊥
not_empty k x h s = eqb-false x.body x.next (rw h at s)

module _ (chain program faults : List ℕ) (l : Location) (c : Ccw) (k : Read) (x : Place) (bs : List ℕ) (e : Abstract.Drive) (st : List ℕ) (r : Answer) (after : List ℕ) where
  -- from the data area that is among the bytes
  of_area : (y : Record) (a : Step.DataArea) → Step.area_of k y ≡ a → Step.bytes_of k y ≡ bs
      → ((p : Lent) (fs : List Fault) → p.chain ≡ chain → p.program ≡ program → faults_at faults 0 ≡ Some fs → Step.carry fs st (Step.plan_transfer l c e st p bs a e) ≡ answer_of r after)
      → Carries chain program faults st (plan_of l c e st k y e) r after
  of_area y a h q g = λ p fs u v w. ap₂ (λ s z. Step.carry fs st (Step.plan_transfer l c e st p s z e)) q h ∙ g p fs u v w

  no_area : (y : Record) → k.datas ≡ false → Step.area_of k y ≡ Step.nothing
  unfolding Step.area_of pick
  no_area y h = rw h

  count_read : k.datas ≡ false → Ends chain program l c (length bs) st (Step.settled bs e st) r after → ReadsBytes chain program faults l c k x bs e st r after
  unfolding Step.carry Step.plan_transfer Step.transferred
  count_read h g = λ y a b n q. of_area y Step.nothing (no_area y h) q (λ p fs u v w. g p u v)

  module _ (h : k.datas ≡ true) where
    empty_area : (y : Record) → length y.body ≡ 0 → Step.area_of k y ≡ Step.empty
    unfolding Step.area_of pick
    empty_area y n = rw (h, eq-eqb (length y.body) 0 n)

    some_area : (y : Record) → (length y.body ≡ 0 → ⊥) → Step.area_of k y ≡ Step.data_of y
    unfolding Step.area_of pick
    some_area y n = pick_true _ _ h ∙ pick_false _ _ (ne_eqb (length y.body) 0 n)

    pub empty_read : x.body ≡ x.next → Ends chain program l c (length bs) st (Step.excepted bs e st) r after → ReadsBytes chain program faults l c k x bs e st r after
    unfolding Step.carry Step.plan_transfer Step.transferred
    empty_read s g = λ y a b n q. of_area y Step.empty (empty_area y (omega arith)) q (λ p fs u v w. g p u v)

    module _ (s : x.body ≡ x.next → ⊥) (i : x.body ≤ x.next) where
      data_area : (y : Record) → length y.body ≡ x.next - x.body → Step.area_of k y ≡ Step.data_of y
      data_area y n = some_area y (λ (z : length y.body ≡ 0). s (omega arith))

      sound_read : FaultFound faults 0 x.at x.r None → Ends chain program l c (length bs) st (Step.settled bs e st) r after
          → ReadsBytes chain program faults l c k x bs e st r after
      unfolding Step.carry Step.plan_transfer Step.transferred Step.by_fault
      sound_read f g = λ y a b n q. of_area y (Step.data_of y) (data_area y n) q (λ p fs u v w. rw (same_name fs y x None a b (f fs w)) (g p u v))

      pub faulted_read : (z : Listed) → FaultFound faults 0 x.at x.r (Some z) → ReadsFaulted chain program l c bs x z e st r after
          → ReadsBytes chain program faults l c k x bs e st r after
      unfolding Step.carry Step.plan_transfer Step.transferred Step.by_fault
      faulted_read z f g = λ y a b n q. of_area y (Step.data_of y) (data_area y n) q (λ p fs u v w. rw (same_name fs y x (Some (fault_from z)) a b (f fs w)) (g y a b p u v))

  pub faultless_read : (k.datas && eqb x.body x.next) ≡ false → x.body ≤ x.next → FaultTaken faults k x None
      → Ends chain program l c (length bs) st (Step.settled bs e st) r after → ReadsBytes chain program faults l c k x bs e st r after
  faultless_read s i f g = split k.datas (λ h. sound_read h (not_empty k x h s) i (f h) g) (λ h. count_read h g)

-- ---- by what the drive takes

module _ (chain program faults image : List ℕ) (l : Location) (c : Ccw) (k : Read) (d : Drive) (st : List ℕ) (r : Answer) where
  pub read_none : TakesFor image d k.just k.datas None → Answers (Step.refusal Step.not_found l c (drive_of d)) r
      → Carries chain program faults st (record_plan l c (drive_of d) st image k) r st
  unfolding Step.carry Step.refuse
  read_none t h = λ p fs u v w. ap (Step.carry fs st) (t l c st p k refl refl) ∙ h st

  pub read_taken : (after : List ℕ) (x : Place) (e : Drive) → TakesFor image d k.just k.datas (Some (x, e))
      → Carries chain program faults st (plan_of l c (drive_of e) st k (record_from image x) (drive_of e)) r after
      → Carries chain program faults st (record_plan l c (drive_of d) st image k) r after
  unfolding Step.plan_transfer
  read_taken after x e t h = λ p fs u v w. ap (Step.carry fs st) (t l c st p k refl refl) ∙ h p fs u v w

-- ---- the home address

abbrev pub home_bytes : Abstract.Drive → List ℕ
home_bytes d = 0 ∷ d.at.cylinder / 256 ∷ d.at.cylinder % 256 ∷ d.at.head / 256 ∷ d.at.head % 256 ∷ []

module _ (chain program image : List ℕ) (l : Location) (c : Ccw) (d : Abstract.Drive) (st : List ℕ) (r : Answer) where
  pub home_none : track_in (pack_of image) d.at ≡ None → Answers (Step.refusal Step.not_found l c d) r → Homes chain program l c d image st r st
  unfolding Step.carry Step.plan_home Step.refuse opt
  home_none e h = λ p fs u v. rw e (h st)

  pub home_read : (after : List ℕ) (t : Track) (e : Abstract.Drive) → Formed image → track_in (pack_of image) d.at ≡ Some t
      → e ≡ Abstract.at_index d.at d.mask → Ends chain program l c 5 st (Step.settled (home_bytes d) e st) r after → Homes chain program l c d image st r after
  unfolding Step.carry Step.plan_home Step.plan_transfer Step.transferred opt home_address address_bytes two
  home_read after t e whole there f h = λ p fs u v.
      let at = (track_sound _ image d.at t whole.1 there).1 in
      rw (there, at, ← f) (h p u v)
