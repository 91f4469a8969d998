-- What the call of recovery hands out: a number, and the bytes of the lent areas.
use Rattle.std.specs.Prelude.{ℕ, List, eqb, length}
use Rattle.base.specs.Choice.{pick}
use Rattle.questions.specs.declared.Question.TheVariants as Question
use Rattle.questions.specs.Number.{number_of}
use Rattle.recovered.specs.Applied.{Applied}
use Rattle.recovery_answer.specs.RecoveryAnswer.{recovery_return, recovery_answer_after}

-- What the call returns, and what the answer area, storage and the restart areas hold behind it.
pub record RecoveryHanded : Type 0 where
  pub number : ℕ
  pub answer : List ℕ
  pub storage : List ℕ
  pub program : List ℕ
  pub restart_arguments : List ℕ

-- the same, from its parts
abbrev pub recovery_handing : ℕ → (answer storage program restart_arguments : List ℕ) → RecoveryHanded
recovery_handing n b st p a = record { number = n; answer = b; storage = st; program = p; restart_arguments = a }

-- What a call comes to, with an answer area, storage and the restart areas. An answer area is one of 10 bytes; question 1 refuses any other.
unfoldable pub recovery_handed : (answer storage program restart_arguments : List ℕ) → Applied → RecoveryHanded
recovery_handed b st p a k =
    pick (eqb (length b) 10) (recovery_handing (recovery_return k.answer) (recovery_answer_after b k.answer) k.storage k.program k.restart_arguments)
    (recovery_handing (number_of Question.Areas) b st p a)
