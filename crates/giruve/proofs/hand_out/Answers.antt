-- `giruve::hand_out` meets its contract by cases of the call. Assumes nothing.
use Rattle.giruve.proofs.Run.{refused_so, ran_so}
use Rattle.giruve.proofs.hand_out.Goals as goal

pub returns-in-Err : goal.returns-in-Err
returns-in-Err c = rw c.in-Err.is (refused_so _ _ _ c.from.ensures)

pub put-requires : goal.put-requires
put-requires c = record { answer_len = c.requires.answer_len; ran_low = rw c.in-Ok.is at c.requires.trial_low }

pub returns-in-Ok : goal.returns-in-Ok
returns-in-Ok c =
    rw c.in-Ok.is (ran_so _ c.in-Ok.r _ _ c.number.ensures c.put.ensures)
