-- `recovery_answer::put` meets its contract: by the answer. Assumes nothing.
use mathlib.Core.Path.{refl, ap, ap₂, ◌∙◌}
use Rattle.recovery_answer.specs.RecoveryAnswer.{bytes_with, recovery_answer_after}
use Rattle.recovery_answer.proofs.put.Goals as goal

pub returns-in-Refused : goal.returns-in-Refused
unfolding recovery_answer_after
returns-in-Refused c = record { value = rw c.in-Refused.is (c.from.ensures); answer_after = rw c.in-Refused.is (refl) }

pub returns-in-ActionOne : goal.returns-in-ActionOne
unfolding recovery_answer_after
returns-in-ActionOne c = record { value = rw c.in-ActionOne.is (c.put_with.ensures.value); answer_after = rw c.in-ActionOne.is (c.put_with.ensures.answer_after ∙ ap (λ w. bytes_with _ _ w) c.no_csw.ensures.value) }

pub returns-in-ActionTwo : goal.returns-in-ActionTwo
unfolding recovery_answer_after
returns-in-ActionTwo c = record { value = rw c.in-ActionTwo.is (c.put_with-in-ActionTwo.ensures.value); answer_after = rw c.in-ActionTwo.is (c.put_with-in-ActionTwo.ensures.answer_after ∙ ap (λ w. bytes_with _ _ w) c.no_csw-in-ActionTwo.ensures.value) }

pub returns-in-Repeat : goal.returns-in-Repeat
unfolding recovery_answer_after
returns-in-Repeat c = record { value = rw c.in-Repeat.is (c.put_with-in-Repeat.ensures.value); answer_after = rw c.in-Repeat.is (c.put_with-in-Repeat.ensures.answer_after ∙ ap (λ w. bytes_with _ _ w) c.no_csw-in-Repeat.ensures.value) }

pub returns-in-CorrectedOnly : goal.returns-in-CorrectedOnly
unfolding recovery_answer_after
returns-in-CorrectedOnly c = record { value = rw c.in-CorrectedOnly.is (c.put_with-in-CorrectedOnly.ensures.value); answer_after = rw c.in-CorrectedOnly.is (c.put_with-in-CorrectedOnly.ensures.answer_after ∙ ap (λ w. bytes_with _ _ w) c.no_csw-in-CorrectedOnly.ensures.value) }

pub put_with-requires-in-Finished : goal.put_with-requires-in-Finished
put_with-requires-in-Finished c = record { answer_len = c.requires.answer_len; csw_low = rw c.in-Finished.is at c.requires.recovered_low }

pub returns-in-Finished : goal.returns-in-Finished
unfolding recovery_answer_after
returns-in-Finished c = record { value = rw c.in-Finished.is (c.put_with-in-Finished.ensures.value); answer_after = rw c.in-Finished.is (c.put_with-in-Finished.ensures.answer_after) }

pub returns-in-Restart : goal.returns-in-Restart
unfolding recovery_answer_after
returns-in-Restart c = record { value = rw c.in-Restart.is (c.put_with-in-Restart.ensures.value); answer_after = rw c.in-Restart.is (c.put_with-in-Restart.ensures.answer_after ∙ ap₂ (bytes_with 6) c.from-in-Restart.ensures c.no_csw-in-Restart.ensures.value) }
