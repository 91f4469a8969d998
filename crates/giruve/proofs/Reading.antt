-- What the call of a reading hands out.
--   reading_unfit, reading_fits    an answer area of another length, and one of 11 bytes
use Rattle.std.specs.Prelude.{Result}
use Prim.Native.Nat.{ℕ}
use mathlib.Core.Path.{◌≡◌, ap, sym, ◌∙◌}
use mathlib.Core.List.{List}
use lib.ListN.{length}
use borrow.Author.Tests.{eq-eqb, ne_eqb}
use Rattle.base.proofs.Choice.{pick_true, pick_false}
use Rattle.questions.specs.declared.Question.TheVariants as Question
use Rattle.questions.specs.Number.{number_of}
use Rattle.reading_runs.specs.Conclusion.{leaving}
use Rattle.giruve.specs.Model.{reading_call_by}
use Rattle.reading_answer.specs.ReadingAnswer.{reading_return, reading_answer_after}
use Rattle.giruve.specs.Reading.{reading_handing, concluded_handing, reading_handed}
use Rattle.reading_runs.specs.declared.Over.{Over}
use Rattle.questions.specs.declared.Question.{Question}

module _ (model : ℕ) (chain arguments st image faults extent : List ℕ) (n : ℕ) (p a l b : List ℕ) where
  pub reading_unfit : (length b ≡ 11 → ⊥) → (r : ℕ) → r ≡ number_of Question.Areas → reading_handing r b st p a l ≡ reading_handed model chain arguments st image faults extent n p a l b
  unfolding reading_handed
  reading_unfit h r e = ap (λ m. reading_handing m b st p a l) e ∙ sym (pick_false _ _ (ne_eqb (length b) 11 h))

  pub reading_fits : length b ≡ 11 → (o : Result Over Question) (st' p' a' l' : List ℕ) → leaving o st' p' a' l' ≡ reading_call_by model chain arguments st image faults extent n p a l
      → (r : ℕ) (c : List ℕ) → r ≡ reading_return o → c ≡ reading_answer_after b o → reading_handing r c st' p' a' l' ≡ reading_handed model chain arguments st image faults extent n p a l b
  unfolding reading_handed
  reading_fits h o st' p' a' l' e r c f g =
      ap (λ m. reading_handing m c st' p' a' l') f
      ∙ ap (λ d. reading_handing (reading_return o) d st' p' a' l') g
      ∙ ap (concluded_handing b) e
      ∙ sym (pick_true _ _ (eq-eqb (length b) 11 h))
