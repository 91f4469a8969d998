-- The derived comparisons of track addresses are those defined.
--   less         `<`
--   one, other   `!=`, by its outcome
use mathlib.Core.Path.{◌≡◌, ap, ◌∙◌}
use mathlib.Core.Bool.{true, false, ◌&&◌, not}
use lib.Dec.{eqb, ltb}
use Rattle.std.specs.Ordering.{partial_lt}
use Rattle.base.proofs.Choice.{split, not_not}
use Rattle.address.specs.declared.Address.{Address}
use Rattle.address.specs.contracts.AddressPartialOrd.TheImpl as Derived
use Rattle.address.specs.Order.{same, before}

pub less : (a b : Address) → partial_lt Derived.partial_cmp-value.it a b ≡ before a b
unfolding before
less a b =
    split (ltb a.cylinder b.cylinder) (λ h. rw h)
    (λ h. split (eqb a.cylinder b.cylinder)
    (λ g. split (ltb a.head b.head) (λ k. rw (h, g, k)) (λ k. split (eqb a.head b.head) (λ m. rw (h, g, k, m)) (λ m. rw (h, g, k, m))))
    (λ g. rw (h, g)))

module _ (a b : Address) where
  pub one : not (eqb a.cylinder b.cylinder && eqb a.head b.head) ≡ false → same a b ≡ true
  unfolding same
  one e = not_not _ ∙ ap not e

  pub other : not (eqb a.cylinder b.cylinder && eqb a.head b.head) ≡ true → same a b ≡ false
  unfolding same
  other e = not_not _ ∙ ap not e
