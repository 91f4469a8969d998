-- `run_answer::put` meets its contract by cases of the run. Assumes nothing.
use Rattle.run_answer.proofs.Whole.{ended_so, cut_so, limit_so}
use Rattle.run_answer.proofs.put.Goals as goal

pub put_end-requires : goal.put_end-requires
put_end-requires c = record { answer_len = c.requires.answer_len; csw_low = rw c.in-Ended.is at c.requires.ran_low }

pub put_cut-requires : goal.put_cut-requires
put_cut-requires c = record { answer_len = c.requires.answer_len; cut_low = rw c.in-Cut.is at c.requires.ran_low }

pub put_end-requires-in-Limited : goal.put_end-requires-in-Limited
put_end-requires-in-Limited c = record { answer_len = c.requires.answer_len; csw_low = rw c.in-Limited.is at c.requires.ran_low }

pub returns-in-Ended : goal.returns-in-Ended
returns-in-Ended c =
    rw c.in-Ended.is (ended_so c.in-Ended.e _ c.put_end.ensures)

pub returns-in-Cut : goal.returns-in-Cut
returns-in-Cut c = rw c.in-Cut.is (cut_so _ _ c.put_cut.ensures)

pub returns-in-Limited : goal.returns-in-Limited
returns-in-Limited c =
    rw c.in-Limited.is (limit_so c.in-Limited.m _ c.put_end-in-Limited.ensures)
