-- What the calls that run a chain hand out: a number, and the bytes of the lent areas.
use Rattle.std.specs.Prelude.{ℕ, ◌≡◌, List, eqb, length, Result}
use Rattle.base.specs.Choice.{pick}
use Rattle.questions.specs.declared.Question.TheVariants as Question
use Rattle.questions.specs.Number.{number_of}
use Rattle.trial.specs.Trial.{Called, refused, answered, shown_of, Conclusion, called_of}
use Rattle.run_answer.specs.RunAnswer.{answer_bytes, run_return}
use Rattle.trial.specs.declared.Ran.{Ran}
use Rattle.questions.specs.declared.Question.{Question}

-- the refusing question's number, or what the run returns
unfoldable pub call_number : Called → ℕ
call_number (refused q) = number_of q
call_number (answered x) = run_return (shown_of x)

-- the answer area: "A no answers its number and changes nothing."
unfoldable pub answer_after : List ℕ → Called → List ℕ
answer_after a (refused q) = a
answer_after a (answered x) = answer_bytes (shown_of x)

-- What a call returns, and what the answer area and storage hold behind it.
pub record RunHanded : Type 0 where
  pub number : ℕ
  pub answer : List ℕ
  pub storage : List ℕ

-- the same, from its parts
abbrev pub run_handing : ℕ → (answer storage : List ℕ) → RunHanded
run_handing n a st = record { number = n; answer = a; storage = st }

-- What a call comes to, with an answer area and storage. An answer area is one of 36 bytes; question 1 refuses any other.
unfoldable pub run_handed : (answer storage : List ℕ) → Conclusion → RunHanded
run_handed a st k =
    pick (eqb (length a) 36) (run_handing (call_number k.answer) (answer_after a k.answer) k.storage) (run_handing (number_of Question.Areas) a st)

-- what the code hands out of a run, whatever storage is behind it
abbrev pub HandsOut : List ℕ → Result Ran Question → ℕ → List ℕ → Type 0
HandsOut a t n after = (st : List ℕ) → (n ≡ call_number (called_of t st)) × (after ≡ answer_after a (called_of t st))
