-- Laws of `wanted_at`.
--   wanted_torn, wanted_other, wanted_stands   what the reader answers, from the tests that its code makes
--   wanted_tells, wanted_bounds                what a field that was found says of the bytes, and where it lies
--   on_wanted_lem                              what is made of a field only where it has one tag
--   not-found                                  no field is both found and missing
use Rattle.std.specs.Prelude.{Option, Some, None}
use Prim.Native.Nat.{ℕ, ◌<◌, ◌≤◌}
use native.Mathlib.Omega.{arith}
use mathlib.Core.Path.{◌≡◌, refl}
use mathlib.Core.List.{List}
use lib.Dec.{eqb}
use lib.ListN.{length}
use borrow.Author.Tests.{eq-eqb, ne_eqb, eqb-true}
use Rattle.base.specs.Choice.{pick, opt}
use Rattle.base.proofs.Choice.{split}
use Rattle.fields.specs.declared.Field.{Field}
use Rattle.fields.specs.TaggedAt.{tagged_at, wanted_at}
use Rattle.fields.proofs.FieldAt.{bounds}

pub not_found : {P : Type 0} {f : Field} → ◌≡◌ {A = Option Field} None (Some f) → P
not_found e = let z : ◌≡◌ {A = ℕ} 0 1 = cc in absurd (omega arith)

module _ (s : List ℕ) (at tag : ℕ) where
  pub wanted_torn : tagged_at s at ≡ None → None ≡ wanted_at s at tag
  unfolding wanted_at opt
  wanted_torn e = rw e

  module _ {f : Field} (e : tagged_at s at ≡ Some f) where
    pub wanted_other : (f.tag ≡ tag → ⊥) → None ≡ wanted_at s at tag
    unfolding wanted_at pick opt
    wanted_other h = rw (e, ne_eqb _ _ h)

    pub wanted_stands : f.tag ≡ tag → Some f ≡ wanted_at s at tag
    unfolding wanted_at pick opt
    wanted_stands h = rw (e, eq-eqb _ _ h)

  module _ {f : Field} where
    pub wanted_tells : wanted_at s at tag ≡ Some f → (tagged_at s at ≡ Some f) × (f.tag ≡ tag)
    unfolding wanted_at pick opt
    wanted_tells e = by (tagged_at s at) e
      where
        by : (d : Option Field) → opt d None (λ g. pick (eqb g.tag tag) (Some g) None) ≡ Some f → (d ≡ Some f) × (f.tag ≡ tag)
        by None q = not_found q
        by (Some g) q =
            split (eqb g.tag tag)
            (λ h. let x : Some g ≡ Some f = rw h at q in let y : g ≡ f = cc in (x, rw y at (eqb-true g.tag tag h)))
            (λ h. not_found (rw h at q))

    pub wanted_bounds : wanted_at s at tag ≡ Some f → (at < f.start) × (f.start ≤ f.next) × (f.next ≤ length s)
    wanted_bounds e = bounds s at (wanted_tells e).0

  pub on_wanted_lem : {A : Type 0} (y : A) (g : Field → A)
      → opt (tagged_at s at) y (λ f. pick (eqb f.tag tag) (g f) y) ≡ opt (wanted_at s at tag) y g
  unfolding wanted_at pick opt
  on_wanted_lem y g = by (tagged_at s at)
    where
      by : (d : Option Field) → opt d y (λ f. pick (eqb f.tag tag) (g f) y)
          ≡ opt (opt d None (λ f. pick (eqb f.tag tag) (Some f) None)) y g
      by None = refl
      by (Some f) = split (eqb f.tag tag) (λ h. rw h) (λ h. rw h)
