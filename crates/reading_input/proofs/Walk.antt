-- The fields of the input, from what the code finds.
--   image_other, image_end, image_torn, image_on        the place behind the faults: another tag, the end, a torn fault, a whole one
--   too_long, no_chain, no_arguments, no_extent, found  the parts
use Rattle.std.specs.Prelude.{Option, Some, None}
use Prim.Native.Nat.{ℕ, zero, suc, ◌+◌, ◌<◌, ◌≤◌}
use native.Mathlib.Nat.{not-suc-le-zero, le_of_suc-le-suc}
use native.Mathlib.Omega.{arith}
use mathlib.Core.Path.{◌≡◌, refl, sym, ◌∙◌}
use mathlib.Core.List.{List, [], ◌∷◌}
use lib.ListN.{length, get_or}
use borrow.Author.Tests.{eq-eqb, ne_eqb, le-leb, lt-leb}
use Rattle.base.specs.Choice.{pick, opt}
use Rattle.base.specs.Bytes.{part}
use Rattle.base.proofs.Choice.{choose_if, found_if}
use Rattle.fields.specs.declared.Field.{Field}
use Rattle.fields.specs.TaggedAt.{tagged_at, wanted_at}
use Rattle.fields.proofs.FieldAt.{bounds}
use Rattle.reading_input.specs.Input.{Parts, led, image_up_to, image_at, parts_of}
use Rattle.reading_input.specs.declared.Places.{Places}
use Rattle.reading_input.specs.Found.{parts_in}

-- ---- the place behind the faults

past : (s : List ℕ) (at : ℕ) → length s ≤ at → get_or s at 0 ≡ 0
past [] at h = refl
past (x ∷ s) zero h = absurd (not-suc-le-zero h)
past (x ∷ s) (suc at) h = past s at (le_of_suc-le-suc h)

other : (n : ℕ) (s : List ℕ) (at : ℕ) → (get_or s at 0 ≡ 0x20 → ⊥) → image_up_to n s at ≡ at
unfolding image_up_to pick
other zero s at h = refl
other (suc n) s at h = rw (ne_eqb (get_or s at 0) 0x20 h)

no_fault : (s : List ℕ) (at : ℕ) → length s ≤ at → get_or s at 0 ≡ 0x20 → ⊥
no_fault s at h e = let q : ◌≡◌ {A = ℕ} 0 0x20 = sym (past s at h) ∙ e in omega arith

-- as many faults as bytes are enough
enough : (n m : ℕ) (s : List ℕ) (at : ℕ) → length s ≤ at + n → length s ≤ at + m → image_up_to n s at ≡ image_up_to m s at
unfolding image_up_to
enough zero m s at h g = sym (other m s at (no_fault s at (omega arith)))
enough (suc n) zero s at h g = other (suc n) s at (no_fault s at (omega arith))
enough (suc n) (suc m) s at h g =
    choose_if _
    (λ e. found_if (tagged_at s at) refl
    (λ f q. let b = bounds s at q in enough n m s f.next (omega (arith, b.0, b.1)) (omega (arith, b.0, b.1))))
    (λ e. refl)

module _ (s : List ℕ) (at : ℕ) where
  pub image_other : (get_or s at 0 ≡ 0x20 → ⊥) → image_at s at ≡ at
  unfolding image_at
  image_other h = other (length s) s at h

  pub image_end : length s ≤ at → image_at s at ≡ at
  image_end h = image_other (no_fault s at h)

  module _ (g : at < length s) (h : get_or s at 0 ≡ 0x20) where
    pub image_torn : tagged_at s at ≡ None → image_at s at ≡ length s
    unfolding image_at image_up_to pick opt
    image_torn e = by (length s) (omega arith)
      where
        by : (n : ℕ) → 0 < n → image_up_to n s at ≡ length s
        by zero k = absurd (not-suc-le-zero k)
        by (suc n) k = rw (eq-eqb (get_or s at 0) 0x20 h, e)

    pub image_on : {f : Field} → tagged_at s at ≡ Some f → image_at s at ≡ image_at s f.next
    unfolding image_at image_up_to pick opt
    image_on e =
        let b = bounds s at e in
        enough (length s) (suc (length s)) s at (omega arith) (omega arith) ∙ rw (eq-eqb (get_or s at 0) 0x20 h, e)

-- ---- the parts

-- the places that the three fields give, and that of the image
abbrev places : Field → Field → Field → ℕ → Places
places chain arguments extent image = record {
  chain = chain.start;
  second = chain.next;
  arguments = arguments.start;
  third = arguments.next;
  extent = extent.start;
  faults = extent.next;
  image = image;
}

module _ (s : List ℕ) (at tag : ℕ) (f : List ℕ → ℕ → Option Parts) where
  led_missing : wanted_at s at tag ≡ None → led s at tag f ≡ None
  unfolding led opt
  led_missing e = rw e

  led_found : {g : Field} → wanted_at s at tag ≡ Some g → led s at tag f ≡ f (part s g.start g.next) g.next
  unfolding led opt
  led_found e = rw e

module _ (s : List ℕ) where
  pub too_long : 60000 < length s → None ≡ parts_of s
  unfolding parts_of pick
  too_long h = rw (lt-leb _ _ h)

  module _ (h : length s ≤ 60000) where
    pub no_chain : wanted_at s 0 0x30 ≡ None → None ≡ parts_of s
    unfolding parts_of pick
    no_chain e = rw (le-leb _ _ h) (sym (led_missing s 0 0x30 _ e))

    module _ {chain : Field} (e : wanted_at s 0 0x30 ≡ Some chain) where
      pub no_arguments : wanted_at s chain.next 0x31 ≡ None → None ≡ parts_of s
      unfolding parts_of pick
      no_arguments e₁ = rw (le-leb _ _ h) (sym (led_found s 0 0x30 _ e ∙ led_missing s chain.next 0x31 _ e₁))

      module _ {arguments : Field} (e₁ : wanted_at s chain.next 0x31 ≡ Some arguments) where
        pub no_extent : wanted_at s arguments.next 0x32 ≡ None → None ≡ parts_of s
        unfolding parts_of pick
        no_extent e₂ =
            rw (le-leb _ _ h)
            (sym (led_found s 0 0x30 _ e ∙ (led_found s chain.next 0x31 _ e₁ ∙ led_missing s arguments.next 0x32 _ e₂)))

        module _ {extent : Field} (e₂ : wanted_at s arguments.next 0x32 ≡ Some extent) where
          pub found : {image : ℕ} → image ≡ image_at s extent.next → Some (parts_in s (places chain arguments extent image)) ≡ parts_of s
          unfolding parts_of pick
          found g =
              rw (le-leb _ _ h, g)
              (sym (led_found s 0 0x30 _ e ∙ (led_found s chain.next 0x31 _ e₁ ∙ led_found s arguments.next 0x32 _ e₂)))
