-- What the call of a reading hands out: a number, and the bytes of the lent areas.
use Rattle.std.specs.Prelude.{ℕ, ◌≡◌, List, eqb, length}
use Rattle.base.specs.Choice.{pick}
use Rattle.questions.specs.declared.Question.TheVariants as Question
use Rattle.questions.specs.Number.{number_of}
use Rattle.reading_runs.specs.Conclusion.{Conclusion}
use Rattle.reading_answer.specs.ReadingAnswer.{reading_return, reading_answer_after}
use Rattle.giruve.specs.Model.{reading_call_by}

-- What the call returns, and what the answer area and the areas that a reading may write hold behind it.
pub record ReadingHanded : Type 0 where
  pub number : ℕ
  pub answer : List ℕ
  pub storage : List ℕ
  pub program : List ℕ
  pub restart_arguments : List ℕ
  pub list : List ℕ

-- the same, from its parts
abbrev pub reading_handing : ℕ → (answer storage program restart_arguments list : List ℕ) → ReadingHanded
reading_handing n b st p a l = record { number = n; answer = b; storage = st; program = p; restart_arguments = a; list = l }

-- a reading's conclusion, its answer in an answer area
abbrev pub concluded_handing : (answer : List ℕ) → Conclusion → ReadingHanded
concluded_handing b k = reading_handing (reading_return k.answer) (reading_answer_after b k.answer) k.storage k.program k.restart_arguments k.list

-- What a call comes to. An answer area is one of 11 bytes; question 1 refuses any other.
unfoldable pub reading_handed : (model : ℕ) (chain arguments st image faults extent : List ℕ) → ℕ → (p a l answer : List ℕ) → ReadingHanded
reading_handed model chain arguments st image faults extent n p a l b =
    pick (eqb (length b) 11) (concluded_handing b (reading_call_by model chain arguments st image faults extent n p a l)) (reading_handing (number_of Question.Areas) b st p a l)

-- The contract of the call: with the number of a model, these areas, this limit and this answer area it hands out h.
abbrev pub ReadingHandsOut : (model : ℕ) (chain arguments st image faults extent : List ℕ) → ℕ → (p a l answer : List ℕ) → ReadingHanded → Type 0
ReadingHandsOut model chain arguments st image faults extent n p a l b h = h ≡ reading_handed model chain arguments st image faults extent n p a l b
