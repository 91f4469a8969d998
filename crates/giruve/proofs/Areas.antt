-- What question 1 answers by itself, from the test that its code makes.
use Rattle.std.specs.Prelude.{Ok, Err}
use Prim.Native.Nat.{ℕ}
use mathlib.Core.Path.{◌≡◌}
use mathlib.Core.Bool.{true, false}
use Rattle.base.specs.Choice.{pick}
use Rattle.questions.specs.declared.Question.TheVariants as Question
use Rattle.questions.specs.Areas.{run_areas, restart_areas}
use Rattle.giruve.specs.Areas.{run_answer, restart_answer}

module _ (chain arguments storage image faults limit : ℕ) where
  pub run_fits : run_areas chain arguments storage image faults limit ≡ true → (Ok tt) ≡ run_answer chain arguments storage image faults limit
  unfolding run_answer pick
  run_fits e = rw e

  pub run_unfit : run_areas chain arguments storage image faults limit ≡ false → Err Question.Areas ≡ run_answer chain arguments storage image faults limit
  unfolding run_answer pick
  run_unfit e = rw e

module _ (program arguments : ℕ) where
  pub restart_fits : restart_areas program arguments ≡ true → (Ok tt) ≡ restart_answer program arguments
  unfolding restart_answer pick
  restart_fits e = rw e

  pub restart_unfit : restart_areas program arguments ≡ false → Err Question.Areas ≡ restart_answer program arguments
  unfolding restart_answer pick
  restart_unfit e = rw e
