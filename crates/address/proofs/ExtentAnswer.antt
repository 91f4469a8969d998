-- What the extent check answers, from the tests that its code makes.
use Rattle.std.specs.Prelude.{Ok, Err}
use Prim.Native.Nat.{ℕ}
use mathlib.Core.Path.{◌≡◌}
use mathlib.Core.Bool.{true, false}
use mathlib.Core.List.{List}
use lib.ListN.{length}
use borrow.Author.Tests.{eq-eqb, ne_eqb}
use Rattle.base.specs.Choice.{pick}
use Rattle.questions.specs.declared.Question.TheVariants as Question
use Rattle.address.specs.declared.Extent.{Extent}
use Rattle.address.specs.declared.Model.{Model}
use Rattle.address.specs.Within.{extent_of, sound_extent, extent_answer}

module _ (m : Model) (s : List ℕ) where
  pub extent_size : (length s ≡ 8 → ⊥) → Err Question.Areas ≡ extent_answer m s
  unfolding extent_answer pick
  extent_size h = rw (ne_eqb _ _ h)

  module _ (h : length s ≡ 8) (e : Extent) (q : e ≡ extent_of m s) where
    pub extent_sound : sound_extent e ≡ true → (Ok tt) ≡ extent_answer m s
    unfolding extent_answer pick
    extent_sound g = rw (eq-eqb _ _ h, ← q, g)

    pub extent_off : sound_extent e ≡ false → Err Question.Extent ≡ extent_answer m s
    unfolding extent_answer pick
    extent_off g = rw (eq-eqb _ _ h, ← q, g)
