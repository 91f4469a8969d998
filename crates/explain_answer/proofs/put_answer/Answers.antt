-- `explain_answer::put_answer` meets its contract. Assumes nothing.
use mathlib.Core.Path.{refl}
use Rattle.text.proofs.Written.{puts_then}
use Rattle.explain_answer.specs.Answer.{answer_text}
use Rattle.explain_answer.proofs.Lines.{answered}
use borrow.Author.Rules.{rules}
use Rattle.explain_answer.proofs.put_answer.Goals as goal

pub returns-in-Refused : goal.returns-in-Refused
unfolding answer_text
returns-in-Refused c = record { puts = answered _ _ _ _ c.in-Refused.is c.put_refusal.ensures.puts refl; upper_bound = search rules }

pub returns-in-ActionOne : goal.returns-in-ActionOne
unfolding answer_text
returns-in-ActionOne c = record { puts = answered _ _ _ _ c.in-ActionOne.is c.put_action.ensures.puts refl; upper_bound = search rules }

pub returns-in-ActionTwo : goal.returns-in-ActionTwo
unfolding answer_text
returns-in-ActionTwo c = record { puts = answered _ _ _ _ c.in-ActionTwo.is c.put_action-in-ActionTwo.ensures.puts refl; upper_bound = search rules }

pub returns-in-Repeat : goal.returns-in-Repeat
unfolding answer_text
returns-in-Repeat c = record { puts = answered _ _ _ _ c.in-Repeat.is c.put_action-in-Repeat.ensures.puts refl; upper_bound = search rules }

pub returns-in-CorrectedOnly : goal.returns-in-CorrectedOnly
unfolding answer_text
returns-in-CorrectedOnly c = record { puts = answered _ _ _ _ c.in-CorrectedOnly.is (puts_then c.put_action-next.ensures.puts c.put_correction.ensures.puts) refl; upper_bound = search rules }

pub returns-in-Finished : goal.returns-in-Finished
unfolding answer_text
returns-in-Finished c = record { puts = answered _ _ _ _ c.in-Finished.is c.put_finished.ensures.puts refl; upper_bound = search rules }

pub returns-in-Restart : goal.returns-in-Restart
unfolding answer_text
returns-in-Restart c = record { puts = answered _ _ _ _ c.in-Restart.is c.put_restart.ensures.puts refl; upper_bound = search rules }
