-- `explain_answer::put_finished` meets its contract. Assumes nothing.
use Rattle.explain_answer.proofs.Lines.{finished_put}
use borrow.Author.Rules.{rules}
use Rattle.explain_answer.proofs.put_finished.Goals as goal

pub returns : goal.returns
returns c = record { puts = finished_put _ _ _ c.put_action-second.ensures.puts c.put_correction-third.ensures.puts c.put_csw.ensures.puts; upper_bound = search rules }
