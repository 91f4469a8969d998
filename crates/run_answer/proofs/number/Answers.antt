-- `run_answer::number` meets its contract by cases of the run. Assumes nothing.
use Rattle.base.specs.Choice.{pick}
use Rattle.trial.specs.Trial.{shown_of}
use Rattle.run_answer.specs.RunAnswer.{run_return}
use Rattle.run_answer.proofs.number.Goals as goal

pub returns-in-Ended : goal.returns-in-Ended
unfolding run_return shown_of pick
returns-in-Ended c = λ st. rw c.in-Ended.is

pub returns-in-Cut : goal.returns-in-Cut
unfolding run_return shown_of pick
returns-in-Cut c = λ st. rw c.in-Cut.is

pub returns-in-Limited : goal.returns-in-Limited
unfolding run_return shown_of pick
returns-in-Limited c = λ st. rw c.in-Limited.is
