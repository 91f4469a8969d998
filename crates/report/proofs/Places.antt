-- A field of one tag and length, and the fields from its place on.
--   not_there, other_length, stands   what `sized_at` answers, from the tests that its code makes
--   There, found_tells                what a field that was found says of the bytes
--   required_tells, required_missing  the same of a field that a report must have
--   on_found, on_missing              what fields come to, where that field is found and where it is not
--   is_field_lem, first_byte          its tag and length, and the first byte of its contents
use Rattle.std.specs.Prelude.{Option, Some, None, Result, Ok, Err}
use Rattle.std.specs.Result.{result_ok}
use Prim.Native.Nat.{ℕ, ◌+◌, ◌-◌, ◌<◌, ◌≤◌}
use native.Mathlib.Nat.{add-zero}
use native.Mathlib.Omega.{arith}
use mathlib.Core.Path.{◌≡◌, refl, sym, ◌∙◌}
use mathlib.Core.Bool.{true, false, ◌&&◌}
use mathlib.Core.List.{List, [], ◌∷◌}
use lib.Dec.{eqb, leb}
use lib.ListN.{length, get_or}
use borrow.Author.Tests.{leb-true, leb-false, eq-eqb, ne_eqb, eqb-true}
use Rattle.base.specs.Choice.{pick, opt}
use Rattle.base.specs.Bytes.{part}
use Rattle.base.proofs.Choice.{split, and_left, and_right, found, opt_opt, opt_some, some_is}
use Rattle.base.proofs.Bytes.{length_part, get_or-part}
use Rattle.questions.specs.declared.Question.{Question}
use Rattle.fields.specs.declared.Field.{Field}
use Rattle.fields.specs.Fields as Spec
use Rattle.fields.specs.Fields.{fields_at}
use Rattle.fields.specs.TaggedAt.{tagged_at, wanted_at}
use Rattle.fields.proofs.FieldAt.{tagged_tells}
use Rattle.fields.proofs.WantedAt.{wanted_stands, wanted_tells, not_found}
use Rattle.fields.proofs.Fields.{fields_end, fields_torn, fields_on}
use Rattle.recovery.specs.Report.{Report, is_field}
use Rattle.report.specs.Reported.{sized_at}

-- a field of the bytes, with its contents
abbrev pub field_of : List ℕ → Field → Spec.Field
field_of s f = record { tag = f.tag; contents = part s f.start f.next }

-- a field of this tag and length n stands at a place
pub record There (s : List ℕ) (at tag n : ℕ) (f : Field) : Type 0 where
  pub is : tagged_at s at ≡ Some f
  pub tag_is : f.tag ≡ tag
  pub start_is : f.start ≡ at + 3
  pub next_is : f.next ≡ f.start + n
  pub inside : f.next ≤ length s

module _ (s : List ℕ) (at tag n : ℕ) where
  pub not_there : wanted_at s at tag ≡ None → None ≡ sized_at s at tag n
  unfolding sized_at opt
  not_there e = rw e

  module _ {f : Field} (e : wanted_at s at tag ≡ Some f) where
    pub other_length : (f.next - f.start ≡ n → ⊥) → None ≡ sized_at s at tag n
    unfolding sized_at pick opt
    other_length h = rw (e, ne_eqb _ _ h)

    pub stands : f.next - f.start ≡ n → Some f ≡ sized_at s at tag n
    unfolding sized_at pick opt
    stands h = rw (e, eq-eqb _ _ h)

  pub found_tells : {f : Field} → sized_at s at tag n ≡ Some f → There s at tag n f
  unfolding sized_at pick
  found_tells {f} e =
      let o = opt_some (wanted_at s at tag) _ e in
      let g = o.0 in
      split (eqb (g.next - g.start) n)
      (λ h.
      let same : g ≡ f = some_is (rw h at o.2) in
      let found : wanted_at s at tag ≡ Some f = rw same at o.1 in
      let is = wanted_tells s at tag found in
      let w = tagged_tells s at is.0 in
      let d : f.next - f.start ≡ n = rw same at (eqb-true (g.next - g.start) n h) in
      record { is = is.0; tag_is = is.1; start_is = w.start_is; next_is = omega (arith, w.next_is); inside = w.inside })
      (λ h. not_found (rw h at o.2))

  -- the same of a field that a report must have
  module _ {o : Option Field} {r : Result Field Question} (e : o ≡ sized_at s at tag n) (g : o ≡ result_ok r) where
    pub required_tells : {f : Field} → r ≡ Ok f → There s at tag n f
    required_tells h = found_tells (sym e ∙ rw h at g)

    pub required_missing : {q : Question} → r ≡ Err q → sized_at s at tag n ≡ None
    required_missing h = sym e ∙ rw h at g

  module _ {A : Type 0} (step : List Spec.Field → Option A) where
    pub on_found : {f : Field} → There s at tag n f → opt (fields_at s at) None step ≡ opt (fields_at s f.next) None (λ fs. step (field_of s f ∷ fs))
    unfolding opt
    on_found {f} w = rw (fields_on s at w.is) (opt_opt (fields_at s f.next) (λ fs. Some (field_of s f ∷ fs)) None step)

    -- what fields come to is the same of both, if it is the same where they do not begin with that field
    pub on_missing : (other : List Spec.Field → Option A) → sized_at s at tag n ≡ None → (length s ≤ at → step [] ≡ other [])
        → ((f : Spec.Field) (fs : List Spec.Field) → is_field f tag n ≡ false → step (f ∷ fs) ≡ other (f ∷ fs))
        → opt (fields_at s at) None step ≡ opt (fields_at s at) None other
    unfolding is_field opt
    on_missing other e none_left differs = by (tagged_at s at) refl
      where
        by : (r : Option Field) → tagged_at s at ≡ r → opt (fields_at s at) None step ≡ opt (fields_at s at) None other
        by None q =
            split (leb (length s) at) (λ h. let g = leb-true (length s) at h in rw (fields_end s at g) (none_left g))
            (λ h. rw (fields_torn s at (leb-false (length s) at h) q))
        by (Some f) q =
            split (eqb f.tag tag && eqb (f.next - f.start) n)
            (λ h.
            let same = eqb-true f.tag tag (and_left (eqb f.tag tag) (eqb (f.next - f.start) n) h) in
            let long = eqb-true (f.next - f.start) n (and_right (eqb f.tag tag) (eqb (f.next - f.start) n) h) in
            not_found (sym (stands (sym (wanted_stands s at tag q same)) long ∙ e)))
            (λ h.
            let l : length (part s f.start f.next) ≡ f.next - f.start = length_part s f.start f.next (tagged_tells s at q).inside in
            rw (
              fields_on s at q,
              opt_opt (fields_at s f.next) (λ fs. Some (field_of s f ∷ fs)) None step,
              opt_opt (fields_at s f.next) (λ fs. Some (field_of s f ∷ fs)) None other,
            )
            (found (fields_at s f.next) refl (λ fs. differs (field_of s f) fs (rw l h))))

-- a field that stands there is one of its tag and length
pub is_field_lem : (s : List ℕ) {at tag n : ℕ} {f : Field} → There s at tag n f → is_field (field_of s f) tag n ≡ true
unfolding is_field
is_field_lem s {tag = tag} {n = n} {f = f} w =
    rw (eq-eqb f.tag tag w.tag_is, length_part s f.start f.next w.inside) (eq-eqb (f.next - f.start) n (omega (arith, w.next_is)))

-- the first byte of a field's contents
pub first_byte : (s : List ℕ) {at tag n : ℕ} {f : Field} → There s at tag n f → 0 < n → get_or (part s f.start f.next) 0 0 ≡ get_or s f.start 0
first_byte s {f = f} w h =
    let e : f.next ≡ f.start + _ = w.next_is in
    get_or-part s f.start f.next 0 (omega arith) ∙ rw add-zero

-- fields that are none
abbrev pub no_report : List Spec.Field → Option Report
no_report fs = None
