-- `explain_session::put_told` meets its contract. Assumes nothing.
use Rattle.explain_session.proofs.Told.{told_put}
use borrow.Author.Rules.{rules}
use Rattle.explain_session.proofs.put_told.Goals as goal

pub returns : goal.returns
returns c = record { puts = told_put _ _ _ _ _ c.put_sense-row.ensures.puts c.put_row-answer.ensures.puts c.put_answer.ensures.puts; upper_bound = search rules }
