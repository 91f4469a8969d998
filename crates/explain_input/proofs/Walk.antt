-- The parts, found field by field.
--   last_past, last_torn, last_here, last_on   one turn of the way to the extent's field, and its ends
--   too_long, no_chain, no_extent, more_behind, parts_found   the parts
--   last_inside                                where the extent's field lies
use Rattle.std.specs.Prelude.{Option, Some, None}
use Prim.Native.Nat.{ℕ, zero, suc, ◌+◌, ◌-◌, ◌<◌, ◌≤◌}
use native.Mathlib.Omega.{arith}
use mathlib.Core.Path.{◌≡◌, refl, sym, ◌∙◌}
use mathlib.Core.List.{List}
use lib.Dec.{eqb}
use lib.ListN.{length}
use borrow.Author.Tests.{eq-eqb, ne_eqb, le-leb, lt-leb, lt-ltb}
use Rattle.base.specs.Choice.{pick, opt}
use Rattle.base.proofs.Choice.{choose_if, found_if}
use Rattle.fields.specs.declared.Field.{Field}
use Rattle.fields.specs.TaggedAt.{tagged_at, wanted_at}
use Rattle.fields.proofs.FieldAt.{bounds}
use Rattle.explain_input.specs.declared.Last.{Last}
use Rattle.explain_input.specs.Input.{last_up_to, last_at, parts_of}
use Rattle.explain_input.specs.Found.{LastInside, parts_in}

-- ---- the extent's field

past : (s : List ℕ) (at : ℕ) → length s ≤ at → tagged_at s at ≡ None
unfolding tagged_at pick
past s at h = rw (lt-ltb (length s - at) 3 (omega arith))

module _ (s : List ℕ) where
  torn_up_to : (n at : ℕ) → tagged_at s at ≡ None → last_up_to n s at ≡ None
  unfolding last_up_to opt
  torn_up_to zero at e = refl
  torn_up_to (suc n) at e = rw e

  -- as many fields as bytes are enough
  enough : (n m at : ℕ) → length s ≤ at + n → length s ≤ at + m → last_up_to n s at ≡ last_up_to m s at
  unfolding last_up_to
  enough zero m at h g = sym (torn_up_to m at (past s at (omega arith)))
  enough (suc n) zero at h g = torn_up_to (suc n) at (past s at (omega arith))
  enough (suc n) (suc m) at h g =
      found_if (tagged_at s at) refl
      (λ f q. let b = bounds s at q in
      choose_if _ (λ e. refl) (λ e. enough n m f.next (omega (arith, b.0, b.1)) (omega (arith, b.0, b.1))))

  module _ (at : ℕ) where
    pub last_torn : tagged_at s at ≡ None → None ≡ last_at s at
    unfolding last_at
    last_torn e = sym (torn_up_to (length s) at e)

    pub last_past : length s ≤ at → None ≡ last_at s at
    last_past h = last_torn (past s at h)

    module _ {f : Field} (e : tagged_at s at ≡ Some f) where
      opened : last_at s at ≡ pick (eqb f.tag 0x32) (Some (record { at = at; field = f })) (last_at s f.next)
      unfolding last_at last_up_to opt
      opened =
          let b = bounds s at e in
          enough (length s) (suc (length s)) at (omega arith) (omega arith) ∙ rw e

      pub last_here : f.tag ≡ 0x32 → Some (record { at = at; field = f }) ≡ last_at s at
      unfolding pick
      last_here h = sym (opened ∙ rw (eq-eqb f.tag 0x32 h))

      pub last_on : (f.tag ≡ 0x32 → ⊥) → last_at s f.next ≡ last_at s at
      unfolding pick
      last_on h = sym (opened ∙ rw (ne_eqb f.tag 0x32 h))

-- where it lies
pub last_inside : {o : Option Last} {l : Last} {from n : ℕ} → o ≡ Some l → LastInside o from n
    → (from ≤ l.at) × (l.at ≤ l.field.start) × (l.field.start ≤ l.field.next) × (l.field.next ≤ n)
last_inside e h = rw e at h

-- ---- the parts

module _ (s : List ℕ) where
  pub too_long : 60000 < length s → None ≡ parts_of s
  unfolding parts_of pick
  too_long h = rw (lt-leb _ _ h)

  module _ (h : length s ≤ 60000) where
    pub no_chain : wanted_at s 0 0x30 ≡ None → None ≡ parts_of s
    unfolding parts_of pick opt
    no_chain e = rw (le-leb _ _ h, e)

    module _ {chain : Field} (e : wanted_at s 0 0x30 ≡ Some chain) where
      pub no_extent : last_at s chain.next ≡ None → None ≡ parts_of s
      unfolding parts_of pick opt
      no_extent l = rw (le-leb _ _ h, e, l)

      module _ {last : Last} (l : last_at s chain.next ≡ Some last) where
        pub more_behind : (last.field.next ≡ length s → ⊥) → None ≡ parts_of s
        unfolding parts_of pick opt
        more_behind n = rw (le-leb _ _ h, e, l, ne_eqb _ _ n)

        pub parts_found : last.field.next ≡ length s
            → Some (parts_in s (record { chain = chain.start; report = chain.next; end = last.at; extent = last.field.start })) ≡ parts_of s
        unfolding parts_of pick opt
        parts_found n = rw (le-leb _ _ h, e, l, eq-eqb _ _ n)
