-- Question 1 asked by itself.
use Rattle.std.specs.Prelude.{ℕ, Result, Ok, Err}
use Rattle.base.specs.Choice.{pick}
use Rattle.questions.specs.declared.Question.TheVariants as Question
use Rattle.questions.specs.Areas.{run_areas, restart_areas}
use Rattle.questions.specs.declared.Question.{Question}

-- "Are all areas and limits as above?" For a run, by the lengths of its areas in bytes and its command limit.
unfoldable pub run_answer : (chain arguments storage image faults limit : ℕ) → Result Unit Question
run_answer chain arguments storage image faults limit = pick (run_areas chain arguments storage image faults limit) (Ok tt) (Err Question.Areas)

-- the same for the restart areas, by their lengths in bytes
unfoldable pub restart_answer : (program arguments : ℕ) → Result Unit Question
restart_answer program arguments = pick (restart_areas program arguments) (Ok tt) (Err Question.Areas)
