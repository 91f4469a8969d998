-- `run_answer::put_last` meets its contract by cases of the mask. Assumes nothing.
use Rattle.base.specs.Bytes.{two}
use Rattle.run_answer.specs.RunAnswer.{mask_bytes}
use Rattle.run_answer.proofs.put_last.Goals as goal

pub returns-in-None : goal.returns-in-None
unfolding mask_bytes two
returns-in-None c = rw c.in-None.is c.put.ensures

pub returns-in-Some : goal.returns-in-Some
unfolding mask_bytes two
returns-in-Some c = rw c.in-Some.is c.put-in-Some.ensures
