-- Laws of `fields_at`: the fields of bytes, by places in them.
--   fields_end    behind the last byte there is no field
--   fields_torn   bytes that do not begin with a whole field are none
--   fields_on     a field, and then the fields from the place behind it on
-- and of `folded_at` likewise: folded-end, folded-torn, folded-field
use Rattle.std.specs.Prelude.{Option, Some, None}
use Prim.Native.Nat.{ℕ, zero, suc, ◌+◌, ◌-◌, ◌<◌, ◌≤◌}
use native.Mathlib.Nat.{add-zero, add-suc}
use native.Mathlib.Omega.{arith}
use mathlib.Core.Path.{◌≡◌, refl, ap, sym, ◌∙◌}
use mathlib.Core.Bool.{true, false}
use mathlib.Core.List.{List, [], ◌∷◌}
use mathlib.Core.Logic.{⊎_elim, ◌⊎◌}
use lib.Dec.{eqb, leb}
use lib.ListN.{length, get_or, drop, length-drop}
use lib.Seq.{get_or-drop, drop-drop}
use borrow.Author.Tests.{le-leb, lt-leb, leb-true, eq-eqb, ne_eqb, eqb-false}
use Rattle.base.specs.Choice.{pick, opt}
use Rattle.base.specs.Bytes.{be16_at, part}
use Rattle.base.proofs.Choice.{choose_if, split, opt_opt}
use Rattle.base.proofs.Bytes.{be16-drop, part-drop}
use Rattle.fields.specs.Fields as Spec
use Rattle.fields.specs.Fields.{begins, front, after_front, fields_up_to, fields_at, folded, folded_at}
use Rattle.fields.specs.declared.Field.{Field}
use Rattle.fields.specs.TaggedAt.{tagged_at}
use Rattle.fields.proofs.FieldAt.{Stands, tagged_tells, torn_tells}

-- ---- as many fields as bytes are enough

length_behind : (l : List ℕ) → 0 < length l → length (after_front l) < length l
unfolding after_front
length_behind l h = simp length-drop (omega arith)

more : (n : ℕ) (l : List ℕ) → length l ≤ n → fields_up_to (suc n) l ≡ fields_up_to n l
unfolding fields_up_to
more zero l h = choose_if _ (λ e. refl) (λ e. absurd (eqb-false (length l) 0 e (omega arith)))
more (suc n) l h =
    choose_if _ (λ e. refl)
    (λ e. choose_if _
    (λ f. ap (λ (o : Option (List Spec.Field)). opt o None (λ fs. Some (front l ∷ fs)))
    (more n (after_front l) (let g : 0 < length l = ne_zero e in omega (arith, length_behind l g))))
    (λ f. refl))
  where
    ne_zero : eqb (length l) 0 ≡ false → 0 < length l
    ne_zero e = let g : length l ≡ 0 → ⊥ = eqb-false (length l) 0 e in omega arith

enough : (k n : ℕ) (l : List ℕ) → length l ≤ n → fields_up_to (n + k) l ≡ fields_up_to n l
enough zero n l h = rw add-zero
enough (suc k) n l h = rw add-suc (more (n + k) l (omega arith) ∙ enough k n l h)

same : (n m : ℕ) (l : List ℕ) → length l ≤ n → n ≤ m → fields_up_to n l ≡ fields_up_to m l
same n m l h g = let e : n + (m - n) ≡ m = omega arith in sym (rw e at (enough (m - n) n l h))

-- ---- by places

empty : (n : ℕ) (l : List ℕ) → length l ≡ 0 → fields_up_to n l ≡ Some []
unfolding fields_up_to pick
empty zero l e = rw (eq-eqb (length l) 0 e)
empty (suc n) l e = rw (eq-eqb (length l) 0 e)

torn : (n : ℕ) (l : List ℕ) → 0 < length l → begins l ≡ false → fields_up_to n l ≡ None
unfolding fields_up_to pick
torn zero l h e = rw (ne_eqb (length l) 0 (λ z. omega arith))
torn (suc n) l h e = rw (ne_eqb (length l) 0 (λ z. omega arith), e)

onward : (n : ℕ) (l : List ℕ) → length l ≤ n → 0 < length l → begins l ≡ true → fields_up_to n l ≡ opt (fields_up_to n (after_front l)) None (λ fs. Some (front l ∷ fs))
unfolding fields_up_to pick
onward zero l h g f = absurd (omega arith)
onward (suc n) l h g f =
    let e : fields_up_to n (after_front l) ≡ fields_up_to (suc n) (after_front l) = same n (suc n) (after_front l) (omega (arith, length_behind l g)) (omega arith) in
    rw (ne_eqb (length l) 0 (λ z. omega arith), f, ← e)

pub fields_end : (l : List ℕ) (at : ℕ) → length l ≤ at → fields_at l at ≡ Some []
unfolding fields_at
fields_end l at h = empty (length l) (drop at l) (simp length-drop (omega arith))

not_begins : (l : List ℕ) (at : ℕ) → (length l - at < 3) ⊎ (length l - (at + 3) < be16_at l (at + 1)) → begins (drop at l) ≡ false
unfolding begins
not_begins l at h = ⊎_elim short long h
  where
    short : length l - at < 3 → begins (drop at l) ≡ false
    short g = rw (lt-leb 3 (length (drop at l)) (simp length-drop (omega arith)))

    long : length l - (at + 3) < be16_at l (at + 1) → begins (drop at l) ≡ false
    long g =
        split (leb 3 (length (drop at l)))
        (λ e. let d = be16-drop at 1 l in
        let f : 3 ≤ length l - at = simp length-drop at (leb-true 3 (length (drop at l)) e) in
        rw (e, lt-leb (3 + be16_at (drop at l) 1) (length (drop at l)) (simp (length-drop, d) (omega arith))))
        (λ e. rw e)

module _ (l : List ℕ) (at : ℕ) (f : Field) (w : Stands l at f) where
  begins_at : begins (drop at l) ≡ true
  unfolding begins
  begins_at =
      let d = be16-drop at 1 l in
      let n = w.next_is in
      let s = w.start_is in
      let i = w.inside in
      rw (le-leb 3 (length (drop at l)) (simp length-drop (omega arith)), le-leb (3 + be16_at (drop at l) 1) (length (drop at l)) (simp (length-drop, d) (omega arith)))

  front_at : front (drop at l) ≡ record { tag = f.tag; contents = part l f.start f.next }
  unfolding front
  front_at =
      let n : at + (3 + be16_at (drop at l) 1) ≡ f.next = omega (arith, be16-drop at 1 l, w.next_is, w.start_is) in
      let tag : get_or (drop at l) 0 0 ≡ f.tag = get_or-drop at l 0 0 ∙ rw add-zero (sym w.tag_is) in
      let body : part (drop at l) 3 (3 + be16_at (drop at l) 1) ≡ part l f.start f.next =
      part-drop at 3 (3 + be16_at (drop at l) 1) l ∙ rw (n, ← w.start_is) in
      λ i. record { tag = tag i; contents = body i }

  behind_at : after_front (drop at l) ≡ drop f.next l
  unfolding after_front
  behind_at =
      let n : at + (3 + be16_at (drop at l) 1) ≡ f.next = omega (arith, be16-drop at 1 l, w.next_is, w.start_is) in
      drop-drop (3 + be16_at (drop at l) 1) at l ∙ ap (λ k. drop k l) n

pub fields_torn : (l : List ℕ) (at : ℕ) → at < length l → tagged_at l at ≡ None → fields_at l at ≡ None
unfolding fields_at
fields_torn l at h e = torn (length l) (drop at l) (simp length-drop (omega arith)) (not_begins l at (torn_tells l at e))

pub fields_on : (l : List ℕ) (at : ℕ) {f : Field} → tagged_at l at ≡ Some f
    → fields_at l at ≡ opt (fields_at l f.next) None (λ fs. Some (record { tag = f.tag; contents = part l f.start f.next } ∷ fs))
unfolding fields_at
fields_on l at {f} e =
    let w = tagged_tells l at e in
    let h : at < length l = omega (arith, w.start_is, w.next_is, w.inside) in
    onward (length l) (drop at l) (simp length-drop (omega arith)) (simp length-drop (omega arith)) (begins_at l at f w)
    ∙ rw (front_at l at f w, behind_at l at f w)

-- ---- what fields come to

module _ {A : Type 0} (step : Spec.Field → A → Option A) (start : A) (s : List ℕ) (at : ℕ) where
  pub folded_end : length s ≤ at → folded_at step start s at ≡ Some start
  unfolding folded_at folded opt
  folded_end h = rw (fields_end s at h)

  pub folded_torn : at < length s → tagged_at s at ≡ None → folded_at step start s at ≡ None
  unfolding folded_at opt
  folded_torn h e = rw (fields_torn s at h e)

  pub folded_field : {f : Field} → tagged_at s at ≡ Some f
      → folded_at step start s at ≡ opt (folded_at step start s f.next) None (step (record { tag = f.tag; contents = part s f.start f.next }))
  unfolding folded_at folded opt
  folded_field {f} e =
      let g : Spec.Field = record { tag = f.tag; contents = part s f.start f.next } in
      rw (
        fields_on s at e,
        opt_opt (fields_at s f.next) (λ fs. Some (g ∷ fs)) None (folded step start),
        opt_opt (fields_at s f.next) (folded step start) None (step g),
      )
