-- What the calls that run a chain hand out, from the tests and calls that their code makes.
--   refused_so, ran_so      a refusal and a run, as bytes and number
--   unfit, fits             an answer area of another length, and one of 36 bytes
use Rattle.std.specs.Prelude.{Result, Ok, Err}
use Prim.Native.Nat.{ℕ}
use mathlib.Core.Path.{◌≡◌, refl}
use mathlib.Core.List.{List}
use lib.ListN.{length}
use borrow.Author.Tests.{eq-eqb, ne_eqb}
use Rattle.base.specs.Choice.{pick}
use Rattle.questions.specs.declared.Question.{Question}
use Rattle.questions.specs.Number.{number_of}
use Rattle.trial.specs.declared.Ran.{Ran}
use Rattle.trial.specs.Trial.{Conclusion, conclusion_of}
use Rattle.run_answer.specs.RunAnswer.{Writes, Numbers}
use Rattle.giruve.specs.Run.{call_number, answer_after, run_handing, run_handed, HandsOut}

pub refused_so : (a : List ℕ) (q : Question) (n : ℕ) → n ≡ number_of q → HandsOut a (Err q) n a
unfolding call_number answer_after
refused_so a q n e st = (e, refl)

pub ran_so : (a : List ℕ) (r : Ran) (n : ℕ) (after : List ℕ) → Numbers r n → Writes r after → HandsOut a (Ok r) n after
unfolding call_number answer_after
ran_so a r n after e w st = (e st, w st)

module _ (a st : List ℕ) (k : Conclusion) where
  pub unfit : (length a ≡ 36 → ⊥) → (n : ℕ) → n ≡ number_of Question.Areas → run_handing n a st ≡ run_handed a st k
  unfolding run_handed pick
  unfit h n e = rw (ne_eqb _ _ h, e)

  pub fits : length a ≡ 36 → (t : Result Ran Question) (after : List ℕ) → conclusion_of t after ≡ k → (n : ℕ) (b : List ℕ) → HandsOut a t n b → run_handing n b after ≡ run_handed a st k
  unfolding run_handed pick
  fits h t after e n b out = rw (eq-eqb _ _ h, ← e, (out after).0, (out after).1)
