-- A call by the number of a model, from what its code knows of that number.
--   by_known, by_unknown    a number that is a model's, and any other
use Rattle.std.specs.Prelude.{Option, Some, None, Result, Ok, Err, ok_or}
use Prim.Native.Nat.{ℕ}
use native.Mathlib.Omega.{arith}
use mathlib.Core.Path.{◌≡◌, refl, sym, ap, ◌∙◌}
use Rattle.base.specs.Choice.{opt}
use Rattle.questions.specs.declared.Question.{Question}
use Rattle.questions.specs.declared.Question.TheVariants as Question
use Rattle.address.specs.declared.Model.{Model}
use Rattle.address.specs.Model.{model_of}

known_is : (o : Option Model) (m : Model) → ok_or o Question.Areas ≡ Ok m → o ≡ Some m
known_is None m e = let z : ◌≡◌ {A = ℕ} 0 1 = cc in absurd (omega arith)
known_is (Some x) m e = let w : x ≡ m = cc in ap Some w

unknown_is : (o : Option Model) (q : Question) → ok_or o Question.Areas ≡ Err q → o ≡ None
unknown_is None q e = refl
unknown_is (Some x) q e = let z : ◌≡◌ {A = ℕ} 0 1 = cc in absurd (omega arith)

module _ {A : Type 0} (n : ℕ) (k : Result Model Question) (is : k ≡ ok_or (model_of n) Question.Areas) (y : A) (f : Model → A) where
  pub by_known : (m : Model) → k ≡ Ok m → f m ≡ opt (model_of n) y f
  unfolding opt
  by_known m e = ap (λ o. opt o y f) (sym (known_is (model_of n) m (sym is ∙ e)))

  pub by_unknown : (q : Question) → k ≡ Err q → y ≡ opt (model_of n) y f
  unfolding opt
  by_unknown q e = ap (λ o. opt o y f) (sym (unknown_is (model_of n) q (sym is ∙ e)))
