-- `reading_answer::put` meets its contract: by the answer. Assumes nothing.
use mathlib.Core.Path.{refl}
use Rattle.reading_answer.specs.ReadingAnswer.{reading_answer_after}
use Rattle.reading_answer.proofs.put.Goals as goal

pub returns-in-Err : goal.returns-in-Err
unfolding reading_answer_after
returns-in-Err c = record { value = rw c.in-Err.is (c.from.ensures); answer_after = rw c.in-Err.is (refl) }

pub put_over-requires : goal.put_over-requires
put_over-requires c = record { answer_len = c.requires.answer_len; over_low = rw c.in-Ok.is at c.requires.outcome_low }

pub returns-in-Ok : goal.returns-in-Ok
unfolding reading_answer_after
returns-in-Ok c = record { value = rw c.in-Ok.is (c.how_number.ensures); answer_after = rw c.in-Ok.is (c.put_over.ensures) }
