-- `explain_answer::restart_index` meets its contract. Assumes nothing.
use Rattle.explain_answer.specs.Answer.{restart_index}
use Rattle.explain_answer.proofs.restart_index.Goals as goal

pub returns-in-Five : goal.returns-in-Five
unfolding restart_index
returns-in-Five c = rw c.in-Five.is

pub returns-in-FiveA : goal.returns-in-FiveA
unfolding restart_index
returns-in-FiveA c = rw c.in-FiveA.is

pub returns-in-Eight : goal.returns-in-Eight
unfolding restart_index
returns-in-Eight c = rw c.in-Eight.is

pub returns-in-Nine : goal.returns-in-Nine
unfolding restart_index
returns-in-Nine c = rw c.in-Nine.is

pub returns-in-Ten : goal.returns-in-Ten
unfolding restart_index
returns-in-Ten c = rw c.in-Ten.is

pub returns-in-TenA : goal.returns-in-TenA
unfolding restart_index
returns-in-TenA c = rw c.in-TenA.is

pub returns-in-Eleven : goal.returns-in-Eleven
unfolding restart_index
returns-in-Eleven c = rw c.in-Eleven.is
