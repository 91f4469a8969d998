-- The laws that tie places in a fault list's bytes to the faults.
--   faults_end, faults_on, faults_none   the faults from a place on
--   fault_bounds, next_fault             where a fault lies, and the faults behind it
--   fault_here, fault_on, fault_missing  the search for a record's fault
--   named_is                             whether it found one
use Rattle.std.specs.Prelude.{Option, Some, None, is_some}
use Prim.Native.Nat.{ℕ, ◌+◌, ◌-◌, ◌<◌, ◌≤◌}
use native.Mathlib.Nat.{add-zero}
use native.Mathlib.Omega.{arith}
use mathlib.Core.Path.{◌≡◌, refl, ap, sym, ◌∙◌}
use mathlib.Core.Bool.{Bool, true, false, ◌&&◌}
use mathlib.Core.List.{List, [], ◌∷◌}
use lib.Dec.{eqb, leb}
use lib.ListN.{length}
use borrow.Author.Tests.{eqb-true, leb-true, leb-false}
use Rattle.base.specs.Choice.{pick, opt}
use Rattle.base.specs.Bytes.{part}
use Rattle.base.proofs.Choice.{split, found, opt_const, opt_some}
use Rattle.base.proofs.Bytes.{length_part, get_or-part, be16-part, part-part, part_three}
use Rattle.fields.specs.declared.Field.{Field}
use Rattle.fields.specs.TaggedAt.{tagged_at}
use Rattle.fields.proofs.Fields.{folded_end, folded_torn, folded_field}
use Rattle.fields.proofs.FieldAt.{bounds}
use Rattle.address.specs.declared.Address.{Address}
use Rattle.faults.specs.declared.Listed.{Listed}
use Rattle.faults.specs.Faults.{Fault, fault_of, led_by_fault, faults_at, naming, missing}
use Rattle.faults.specs.FaultAt.{listed, fault_in, fault_at, fault_from, named, FaultFound, NamedFrom}

is_fault : Field → Bool
is_fault y = eqb y.tag 0x20 && eqb (y.next - y.start) 10

-- the fault that contents are, by their places
fault_of_lem : (s : List ℕ) (y : Field) → y.start ≤ y.next → y.next ≤ length s
    → fault_of (record { tag = y.tag; contents = part s y.start y.next }) ≡ pick (is_fault y) (Some (fault_from (listed s y))) None
unfolding fault_of is_fault fault_from listed pick
fault_of_lem s y h g =
    split (eqb y.tag 0x20)
    (λ e. split (eqb (y.next - y.start) 10)
    (λ f.
    let n : y.next - y.start ≡ 10 = eqb-true _ _ f in
    let end : y.start + 10 ≡ y.start + 7 + 3 = omega arith in
    let one : y.start + 7 + 1 ≡ y.start + 8 = omega arith in
    let two : y.start + 7 + 2 ≡ y.start + 9 = omega arith in
    rw (
      length_part s y.start y.next g,
      e,
      f,
      be16-part s y.start y.next 0 (omega arith),
      be16-part s y.start y.next 2 (omega arith),
      be16-part s y.start y.next 5 (omega arith),
      get_or-part s y.start y.next 4 (omega arith),
      part-part s y.start y.next 7 10 (omega arith),
      end,
      part_three s (y.start + 7) (omega arith),
      one,
      two,
      add-zero y.start,
    ))
    (λ f. rw (length_part s y.start y.next g, e, f)))
    (λ e. rw e)

pub faults_end : (s : List ℕ) (at : ℕ) → length s ≤ at → faults_at s at ≡ Some []
unfolding faults_at
faults_end s at h = folded_end led_by_fault [] s at h

faults_torn : (s : List ℕ) (at : ℕ) → at < length s → tagged_at s at ≡ None → faults_at s at ≡ None
unfolding faults_at
faults_torn s at h e = folded_torn led_by_fault [] s at h e

-- a field of the list, with the faults behind it
faults_field : (s : List ℕ) (at : ℕ) {y : Field} → tagged_at s at ≡ Some y
    → faults_at s at ≡ opt (faults_at s y.next) None (λ fs. pick (is_fault y) (Some (fault_from (listed s y) ∷ fs)) None)
unfolding faults_at led_by_fault pick opt
faults_field s at {y} e =
    let b = bounds s at e in
    folded_field led_by_fault [] s at e
    ∙ found (faults_at s y.next) refl (λ fs. rw (fault_of_lem s y b.1 b.2) (split (is_fault y) (λ q. rw q) (λ q. rw q)))

-- what was found at a place comes from the field there
fault_from_lem : (s : List ℕ) (at : ℕ) (l : Listed) → fault_at s at ≡ Some l
    → (y : Field) × (tagged_at s at ≡ Some y) × (is_fault y ≡ true) × (listed s y ≡ l)
unfolding fault_at fault_in is_fault pick opt
fault_from_lem s at l h = by (tagged_at s at) refl
  where
    by : (f : Option Field) → tagged_at s at ≡ f
        → (y : Field) × (tagged_at s at ≡ Some y) × (is_fault y ≡ true) × (listed s y ≡ l)
    by None q = let w : ◌≡◌ {A = Option Listed} None (Some l) = rw q at h in let z : ◌≡◌ {A = ℕ} 0 1 = cc in absurd (omega arith)
    by (Some y) q =
        let w : fault_in s y ≡ Some l = rw q at h in
        split (eqb y.tag 0x20 && eqb (y.next - y.start) 10)
        (λ e. let v : ◌≡◌ {A = Option Listed} (Some (listed s y)) (Some l) = rw e at w in (y, q, e, (cc)))
        (λ e. let v : ◌≡◌ {A = Option Listed} None (Some l) = rw e at w in let z : ◌≡◌ {A = ℕ} 0 1 = cc in absurd (omega arith))

next_listed : (s : List ℕ) (y : Field) (l : Listed) → listed s y ≡ l → y.next ≡ l.next
unfolding listed
next_listed s y l e = ap (λ (m : Listed). m.next) e

pub faults_on : (s : List ℕ) (at : ℕ) (l : Listed) → fault_at s at ≡ Some l → faults_at s at ≡ opt (faults_at s l.next) None (λ fs. Some (fault_from l ∷ fs))
unfolding pick
faults_on s at l h =
    let f = fault_from_lem s at l h in
    faults_field s at f.1 ∙ found (faults_at s f.0.next) refl (λ fs. rw (f.2, f.3))
    ∙ ap (λ n. opt (faults_at s n) None (λ fs. Some (fault_from l ∷ fs))) (next_listed s f.0 l f.3)

pub fault_bounds : (s : List ℕ) (at : ℕ) (l : Listed) → fault_at s at ≡ Some l → (at < l.next) × (l.next ≤ length s)
fault_bounds s at l h =
    let f = fault_from_lem s at l h in
    let b = bounds s at f.1 in
    let n = next_listed s f.0 l f.3 in
    (omega arith, omega arith)

pub faults_none : (s : List ℕ) (at : ℕ) → at < length s → fault_at s at ≡ None → faults_at s at ≡ None
unfolding fault_at fault_in is_fault pick opt
faults_none s at h e = by (tagged_at s at) refl
  where
    by : (f : Option Field) → tagged_at s at ≡ f → faults_at s at ≡ None
    by None q = faults_torn s at h q
    by (Some y) q =
        let w : fault_in s y ≡ None = rw q at e in
        faults_field s at q
        ∙ opt_const (faults_at s y.next)
        (λ fs _.
        split (eqb y.tag 0x20 && eqb (y.next - y.start) 10)
        (λ g. let v : ◌≡◌ {A = Option Listed} (Some (listed s y)) None = rw g at w in let z : ◌≡◌ {A = ℕ} 0 1 = cc in absurd (omega arith))
        (λ g. rw g))

-- ---- a list that decodes

module _ (s : List ℕ) (at : ℕ) (fs : List Fault) (h : faults_at s at ≡ Some fs) where
  pub next_fault : (l : Listed) → fault_at s at ≡ Some l → (gs : List Fault) × (faults_at s l.next ≡ Some gs) × (fs ≡ fault_from l ∷ gs)
  next_fault l e =
      let o = opt_some (faults_at s l.next) (λ gs. Some (fault_from l ∷ gs)) (sym (faults_on s at l e) ∙ h) in
      let v = o.2 in
      (o.0, o.1, (cc))

  module _ (a : Address) (r : ℕ) where
    pub fault_missing : fault_at s at ≡ None → naming fs a r ≡ None
    unfolding naming
    fault_missing e =
        split (leb (length s) at)
        (λ q. let v : Some fs ≡ Some [] = sym h ∙ faults_end s at (leb-true _ _ q) in let w : fs ≡ [] = cc in rw w)
        (λ q. let v : None ≡ Some fs = sym (faults_none s at (leb-false (length s) at q) e) ∙ h in let z : ◌≡◌ {A = ℕ} 0 1 = cc in absurd (omega arith))

    pub fault_here : (l : Listed) → fault_at s at ≡ Some l → named l a r ≡ true → naming fs a r ≡ Some (fault_from l)
    unfolding naming named fault_from pick
    fault_here l e q = ap (λ (gs : List Fault). naming gs a r) (next_fault l e).2 ∙ rw q

    pub fault_on : (l : Listed) → fault_at s at ≡ Some l → named l a r ≡ false → (gs : List Fault) × (faults_at s l.next ≡ Some gs) × (naming fs a r ≡ naming gs a r)
    unfolding naming named fault_from pick
    fault_on l e q = let n = next_fault l e in (n.0, n.1, ap (λ (gs : List Fault). naming gs a r) n.2 ∙ rw q)

-- whether a search found a fault
pub named_is : (s : List ℕ) (at : ℕ) (a : Address) (r : ℕ) (o : Option Listed) → FaultFound s at a r o → NamedFrom s at a r (is_some o)
unfolding missing
named_is s at a r None h = λ fs e. rw (h fs e)
named_is s at a r (Some l) h = λ fs e. rw (h fs e)
