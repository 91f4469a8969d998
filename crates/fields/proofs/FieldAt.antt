-- Laws of `tagged_at`.
--   torn_short, torn_long, whole   what the reader answers, from the tests that its code makes
--   Stands, tagged-tells           what a field that was found says of the bytes
--   bounds                         where it lies
--   torn_tells                     what stands where none was found
use Rattle.std.specs.Prelude.{Option, Some, None}
use Prim.Native.Nat.{ℕ, ◌+◌, ◌-◌, ◌<◌, ◌≤◌}
use native.Mathlib.Omega.{arith}
use mathlib.Core.Path.{◌≡◌, refl}
use mathlib.Core.List.{List}
use mathlib.Core.Logic.{◌⊎◌, inl, inr}
use lib.Dec.{ltb}
use lib.ListN.{length, get_or}
use borrow.Author.Tests.{lt-ltb, le-ltb, ltb-true, ltb-false}
use Rattle.base.specs.Choice.{pick}
use Rattle.base.specs.Bytes.{be16_at}
use Rattle.base.proofs.Choice.{split}
use Rattle.fields.specs.declared.Field.{Field}
use Rattle.fields.specs.TaggedAt.{tagged_at}

module _ (s : List ℕ) (at : ℕ) where
  pub torn_short : length s - at < 3 → None ≡ tagged_at s at
  unfolding tagged_at pick
  torn_short h = rw (lt-ltb _ _ h)

  module _ (h : 3 ≤ length s - at) (n : ℕ) (e : n ≡ be16_at s (at + 1)) where
    pub torn_long : length s - (at + 3) < n → None ≡ tagged_at s at
    unfolding tagged_at pick
    torn_long g = rw (le-ltb _ _ h, lt-ltb _ _ (rw e at g))

    pub whole : n ≤ length s - (at + 3) → Some (record { tag = get_or s at 0; start = at + 3; next = at + 3 + n }) ≡ tagged_at s at
    unfolding tagged_at pick
    whole g = rw (le-ltb _ _ h, le-ltb _ _ (rw e at g), e)

-- what the field at a place says of the bytes
pub record Stands (s : List ℕ) (at : ℕ) (f : Field) : Type 0 where
  pub tag_is : f.tag ≡ get_or s at 0
  pub start_is : f.start ≡ at + 3
  pub next_is : f.next ≡ f.start + be16_at s (at + 1)
  pub inside : f.next ≤ length s

module _ {f : Field} where
  not_torn : {P : Type 0} → ◌≡◌ {A = Option Field} None (Some f) → P
  not_torn e = let z : ◌≡◌ {A = ℕ} 0 1 = cc in absurd (omega arith)

  not_whole : {P : Type 0} → Some f ≡ None → P
  not_whole e = let z : ◌≡◌ {A = ℕ} 0 1 = cc in absurd (omega arith)

  the_field : {g : Field} → Some g ≡ Some f → g ≡ f
  the_field e = cc

  pub tagged_tells : (s : List ℕ) (at : ℕ) → tagged_at s at ≡ Some f → Stands s at f
  unfolding tagged_at pick
  tagged_tells s at e =
      split (ltb (length s - at) 3) (λ a. not_torn (rw a at e))
      (λ a. split (ltb (length s - (at + 3)) (be16_at s (at + 1))) (λ b. not_torn (rw (a, b) at e))
      (λ b.
      let q = the_field (rw (a, b) at e) in
      let y : 3 ≤ length s - at = ltb-false (length s - at) 3 a in
      let z : be16_at s (at + 1) ≤ length s - (at + 3) = ltb-false _ _ b in
      rw (← q) (record { tag_is = refl; start_is = refl; next_is = refl; inside = omega arith })))

pub torn_tells : (s : List ℕ) (at : ℕ) → tagged_at s at ≡ None → (length s - at < 3) ⊎ (length s - (at + 3) < be16_at s (at + 1))
unfolding tagged_at pick
torn_tells s at e =
    split (ltb (length s - at) 3) (λ a. inl (ltb-true _ _ a))
    (λ a. split (ltb (length s - (at + 3)) (be16_at s (at + 1))) (λ b. inr (ltb-true _ _ b)) (λ b. not_whole (rw (a, b) at e)))

pub bounds : (s : List ℕ) (at : ℕ) {f : Field} → tagged_at s at ≡ Some f → (at < f.start) × (f.start ≤ f.next) × (f.next ≤ length s)
bounds s at e = let w = tagged_tells s at e in (omega (arith, w.start_is), omega (arith, w.next_is), w.inside)
