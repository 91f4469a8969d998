-- A table of 256 marks against the list of numbers seen.
--   Marks                    the entry of a number is 1 where it was seen, else 0
--   marks_zero, marks_more   with 0 alone, and with one number more
--   marked, unmarked         what a mark tells
use Prim.Native.Nat.{ℕ, ◌<◌}
use native.Mathlib.Omega.{arith}
use mathlib.Core.Path.{◌≡◌, refl, sym, ◌∙◌}
use mathlib.Core.Bool.{true, false}
use mathlib.Core.List.{List, [], ◌∷◌}
use lib.Dec.{eqb}
use lib.ListN.{length, get_or, set, replicate, get_or-replicate}
use lib.Seq.{get_or-set_same, get_or-set_other}
use borrow.Author.Tests.{eq-eqb, eqb-true, eqb-false}
use Rattle.base.specs.Choice.{pick}
use Rattle.base.proofs.Choice.{split}
use Rattle.image.specs.Image.{member}

abbrev pub Marks : List ℕ → List ℕ → Type 0
Marks marks seen = (k : ℕ) → k < 256 → get_or marks k 0 ≡ pick (member k seen) 1 0

marks_none : Marks (replicate 256 0) []
unfolding member pick
marks_none k h = get_or-replicate 256 k 0 0 h

pub marks_more : (marks seen : List ℕ) (r : ℕ) → r < length marks → Marks marks seen → Marks (set marks r 1) (r ∷ seen)
unfolding member pick
marks_more marks seen r g m k h =
    split (eqb r k) (λ e. rw (← (eqb-true r k e), eq-eqb r r refl) (get_or-set_same marks r 1 0 g))
    (λ e. rw e (get_or-set_other marks r k 1 0 (λ q. eqb-false r k e (sym q)) ∙ m k h))

pub marks_zero : Marks (set (replicate 256 0) 0 1) (0 ∷ [])
marks_zero = marks_more (replicate 256 0) [] 0 (omega arith) marks_none

module _ (marks seen : List ℕ) (m : Marks marks seen) (r : ℕ) (h : r < 256) where
  pub marked : get_or marks r 0 ≡ 1 → member r seen ≡ true
  unfolding pick
  marked e = split (member r seen) (λ q. q) (λ q. let z : 0 ≡ 1 = sym (rw q at (m r h)) ∙ e in absurd (omega arith))

  pub unmarked : (get_or marks r 0 ≡ 1 → ⊥) → member r seen ≡ false
  unfolding pick
  unmarked e = split (member r seen) (λ q. absurd (e (rw q at (m r h)))) (λ q. q)
