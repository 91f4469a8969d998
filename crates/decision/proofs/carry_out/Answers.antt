-- `decision::carry_out` meets its contract: by the decision. Assumes nothing.
use Rattle.decision.specs.Decision.{done}
use Rattle.decision.proofs.carry_out.Goals as goal

pub put_restart-requires : goal.put_restart-requires
put_restart-requires c = record { program_len = c.requires.program_len; restart_arguments_len = c.requires.restart_arguments_len; plan_low = rw c.in-Restarts.is at c.requires.decision_low }

pub put_overflow-requires : goal.put_overflow-requires
put_overflow-requires c = record { program_len = c.requires.program_len; restart_arguments_len = c.requires.restart_arguments_len; overflow_low = rw c.in-Resumes.is at c.requires.decision_low }

pub returns-in-Answers : goal.returns-in-Answers
unfolding done
returns-in-Answers c = rw c.in-Answers.is

pub returns-in-Corrects : goal.returns-in-Corrects
unfolding done
returns-in-Corrects c = rw (c.in-Corrects.is, c.mend.ensures)

pub returns-in-Restarts : goal.returns-in-Restarts
unfolding done
returns-in-Restarts c =
    rw (c.in-Restarts.is, c.mend-in-Restarts.ensures, c.put_restart.ensures.program_after, c.put_restart.ensures.restart_arguments_after)

pub returns-in-Resumes : goal.returns-in-Resumes
unfolding done
returns-in-Resumes c =
    rw (c.in-Resumes.is, c.put_overflow.ensures.program_after, c.put_overflow.ensures.restart_arguments_after)
