-- `explain_sense::put_row` meets its contract. Assumes nothing.
use Rattle.explain_sense.proofs.Lines.{row_none, row_put}
use borrow.Author.Rules.{rules}
use Rattle.explain_sense.proofs.put_row.Goals as goal

pub returns-in_default : goal.returns-in_default
returns-in_default c = record { puts = row_none _ _ c.row_for.ensures _ _ c.in_default.is; upper_bound = search rules }

pub returns : goal.returns
returns c = record { puts = row_put _ _ c.row_for.ensures c.in-Some.is c.put_line.ensures.puts; upper_bound = search rules }
