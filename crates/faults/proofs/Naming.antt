-- What is known of a fault that names a record.
--   named_sound     it names that record, and is sound if the list is
--   Says, says      the record is in the pack, and the displacement lies in its data
--   pattern_three   its pattern has three bytes
use Rattle.std.specs.Prelude.{Option, Some, None}
use Prim.Native.Nat.{ℕ, ◌<◌, ◌≤◌}
use native.Mathlib.Omega.{arith}
use mathlib.Core.Path.{◌≡◌, refl}
use mathlib.Core.Bool.{true, false, ◌&&◌}
use mathlib.Core.List.{List, [], ◌∷◌}
use lib.Dec.{eqb, ltb, leb}
use lib.ListN.{length}
use borrow.Author.Tests.{eqb-true, ltb-true, leb-true}
use Rattle.base.specs.Choice.{pick, opt}
use Rattle.base.specs.Bytes.{part}
use Rattle.base.proofs.Choice.{split, opt_some, and_left, and_right}
use Rattle.base.proofs.Bytes.{length_part}
use Rattle.fields.specs.Fields.{Field, fields_at, folded, folded_at}
use Rattle.address.specs.declared.Address.{Address}
use Rattle.address.specs.Order.{same}
use Rattle.pack.specs.Pack.{Record, Track, record_in}
use Rattle.image.proofs.Sound.{same_address}
use Rattle.faults.specs.Faults.{Fault, fault_of, led_by_fault, faults_at, naming, missing, sound_fault, sound_faults}

pub named_sound : (ts : List Track) (fs : List Fault) (a : Address) (r : ℕ) (f : Fault) → sound_faults ts fs ≡ true → naming fs a r ≡ Some f
    → (f.at ≡ a) × (f.r ≡ r) × (sound_fault ts f ≡ true)
unfolding sound_faults naming pick
named_sound ts [] a r f h e = let z : ◌≡◌ {A = ℕ} 0 1 = cc in absurd (omega arith)
named_sound ts (g ∷ fs) a r f h e =
    let l = and_left (sound_fault ts g && missing (naming fs g.at g.r)) (sound_faults ts fs) h in
    split (same g.at a && eqb g.r r)
    (λ q.
    let v : Some g ≡ Some f = rw q at e in
    let w : g ≡ f = cc in
    rw (← w) (same_address g.at a (and_left (same g.at a) _ q), eqb-true _ _ (and_right (same g.at a) _ q), and_left (sound_fault ts g) _ l))
    (λ q. named_sound ts fs a r f (and_right (sound_fault ts g && missing (naming fs g.at g.r)) _ h) (rw q at e))

pub record Says (ts : List Track) (f : Fault) : Type 0 where
  pub from_one : 0 < f.r
  pub taken : Record
  pub there : record_in ts f.at f.r ≡ Some taken
  pub some_way : 1 ≤ f.displacement
  pub inside : f.displacement ≤ length taken.body

pub says : (ts : List Track) (f : Fault) → sound_fault ts f ≡ true → Says ts f
unfolding sound_fault opt
says ts f h = by (record_in ts f.at f.r) refl
  where
    by : (o : Option Record) → record_in ts f.at f.r ≡ o → Says ts f
    by None q =
        let v : false ≡ true = rw q at (and_right (ltb 0 f.r) (opt (record_in ts f.at f.r) false (λ x. leb 1 f.displacement && leb f.displacement (length x.body))) h) in
        let z : ◌≡◌ {A = ℕ} 0 1 = cc in absurd (omega arith)
    by (Some x) q =
        let v : (leb 1 f.displacement && leb f.displacement (length x.body)) ≡ true =
        rw q at (and_right (ltb 0 f.r) (opt (record_in ts f.at f.r) false (λ x. leb 1 f.displacement && leb f.displacement (length x.body))) h) in
        record {
          from_one = ltb-true _ _ (and_left (ltb 0 f.r) _ h);
          taken = x;
          there = q;
          some_way = leb-true _ _ (and_left (leb 1 f.displacement) _ v);
          inside = leb-true _ _ (and_right (leb 1 f.displacement) _ v);
        }

-- ---- patterns

abbrev Threes : List Fault → Type 0
Threes [] = Unit {0}
Threes (f ∷ fs) = (length f.pattern ≡ 3) × Threes fs

pattern_of : (g : Field) (f : Fault) → fault_of g ≡ Some f → length f.pattern ≡ 3
unfolding fault_of pick
pattern_of g f h =
    split (eqb g.tag 0x20 && eqb (length g.contents) 10)
    (λ q.
    let n : length g.contents ≡ 10 = eqb-true _ _ (and_right (eqb g.tag 0x20) _ q) in
    let p : length (part g.contents 7 10) ≡ 3 = length_part g.contents 7 10 (omega arith) in
    let v = rw q at h in
    let w : part g.contents 7 10 ≡ f.pattern = cc in
    rw (← w) p)
    (λ q. let v : ◌≡◌ {A = Option Fault} None (Some f) = rw q at h in let z : ◌≡◌ {A = ℕ} 0 1 = cc in absurd (omega arith))

threes : (gs : List Field) (fs : List Fault) → folded led_by_fault [] gs ≡ Some fs → Threes fs
unfolding folded led_by_fault
threes [] fs h = let w : [] ≡ fs = cc in rw (← w) tt
threes (g ∷ gs) fs h =
    let o = opt_some (folded led_by_fault [] gs) (led_by_fault g) h in
    let q = opt_some (fault_of g) (λ x. Some (x ∷ o.0)) o.2 in
    let v = q.2 in
    let w : q.0 ∷ o.0 ≡ fs = cc in
    rw (← w) (pattern_of g q.0 q.1, threes gs o.0 o.1)

named_three : (fs : List Fault) → Threes fs → (a : Address) (r : ℕ) (f : Fault) → naming fs a r ≡ Some f → length f.pattern ≡ 3
unfolding naming pick
named_three [] t a r f e = let z : ◌≡◌ {A = ℕ} 0 1 = cc in absurd (omega arith)
named_three (g ∷ fs) t a r f e =
    split (same g.at a && eqb g.r r) (λ q. let v : Some g ≡ Some f = rw q at e in let w : g ≡ f = cc in rw (← w) t.0)
    (λ q. named_three fs t.1 a r f (rw q at e))

pub pattern_three : (s : List ℕ) (fs : List Fault) → faults_at s 0 ≡ Some fs → (a : Address) (r : ℕ) (f : Fault) → naming fs a r ≡ Some f → length f.pattern ≡ 3
unfolding faults_at folded_at
pattern_three s fs h a r f e =
    let o = opt_some (fields_at s 0) (folded led_by_fault []) h in
    named_three fs (threes o.0 fs o.2) a r f e
