-- What the call of recovery hands out.
--   area_unfit, area_fits    an answer area of another length, and one of 10 bytes
use Prim.Native.Nat.{ℕ}
use mathlib.Core.Path.{◌≡◌, ap, sym, ◌∙◌}
use mathlib.Core.List.{List}
use lib.ListN.{length}
use borrow.Author.Tests.{eq-eqb, ne_eqb}
use Rattle.base.proofs.Choice.{pick_true, pick_false}
use Rattle.questions.specs.declared.Question.TheVariants as Question
use Rattle.questions.specs.Number.{number_of}
use Rattle.recovered.specs.declared.Recovered.{Recovered}
use Rattle.recovered.specs.Applied.{Applied, with}
use Rattle.recovery_answer.specs.RecoveryAnswer.{recovery_return, recovery_answer_after}
use Rattle.giruve.specs.Recover.{recovery_handing, recovery_handed}

module _ (b st p a : List ℕ) (k : Applied) where
  pub area_unfit : (length b ≡ 10 → ⊥) → (n : ℕ) → n ≡ number_of Question.Areas → recovery_handing n b st p a ≡ recovery_handed b st p a k
  unfolding recovery_handed
  area_unfit h n e = ap (λ m. recovery_handing m b st p a) e ∙ sym (pick_false _ _ (ne_eqb (length b) 10 h))

  pub area_fits : length b ≡ 10 → (r : Recovered) (st' p' a' : List ℕ) → with r st' p' a' ≡ k → (n : ℕ) (c : List ℕ) → n ≡ recovery_return r → c ≡ recovery_answer_after b r
      → recovery_handing n c st' p' a' ≡ recovery_handed b st p a k
  unfolding recovery_handed
  area_fits h r st' p' a' e n c f g =
      ap (λ m. recovery_handing m c st' p' a') f
      ∙ ap (λ d. recovery_handing (recovery_return r) d st' p' a') g
      ∙ ap (λ (q : Applied). recovery_handing (recovery_return q.answer) (recovery_answer_after b q.answer) q.storage q.program q.restart_arguments) e
      ∙ sym (pick_true _ _ (eq-eqb (length b) 10 h))
