-- `explain_answer::put_detail` meets its contract. Assumes nothing.
use mathlib.Core.Path.{refl}
use Rattle.text.proofs.Written.{puts_none}
use Rattle.explain_answer.specs.Answer.{detail_text}
use Rattle.explain_answer.proofs.Lines.{detail_put}
use borrow.Author.Rules.{rules}
use Rattle.explain_answer.proofs.put_detail.Goals as goal

pub returns-in-Five : goal.returns-in-Five
unfolding detail_text
returns-in-Five c = record { puts = detail_put _ _ c.in-Five.is c.put_correction.ensures.puts refl; upper_bound = search rules }

pub returns-in-FiveA : goal.returns-in-FiveA
unfolding detail_text
returns-in-FiveA c = record { puts = detail_put _ _ c.in-FiveA.is c.put_correction-in-FiveA.ensures.puts refl; upper_bound = search rules }

pub returns-in-Eight : goal.returns-in-Eight
unfolding detail_text
returns-in-Eight c = record { puts = detail_put _ _ c.in-Eight.is (puts_none _ _) refl; upper_bound = search rules }

pub returns-in-Nine : goal.returns-in-Nine
unfolding detail_text
returns-in-Nine c = record { puts = detail_put _ _ c.in-Nine.is (puts_none _ _) refl; upper_bound = search rules }

pub returns-in-Ten : goal.returns-in-Ten
unfolding detail_text
returns-in-Ten c = record { puts = detail_put _ _ c.in-Ten.is (puts_none _ _) refl; upper_bound = search rules }

pub returns-in-TenA : goal.returns-in-TenA
unfolding detail_text
returns-in-TenA c = record { puts = detail_put _ _ c.in-TenA.is c.put_head.ensures.puts refl; upper_bound = search rules }

pub returns-in-Eleven : goal.returns-in-Eleven
unfolding detail_text
returns-in-Eleven c = record { puts = detail_put _ _ c.in-Eleven.is c.put_head-in-Eleven.ensures.puts refl; upper_bound = search rules }
