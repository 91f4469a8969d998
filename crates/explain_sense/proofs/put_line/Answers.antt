-- `explain_sense::put_line` meets its contract. Assumes nothing.
use Rattle.text.specs.Text.{ascii}
use Rattle.explain_sense.proofs.Lines.{line_put}
use borrow.Author.Rules.{rules}
use Rattle.explain_sense.proofs.put_line.Goals as goal

pub returns : goal.returns
unfolding ascii
returns c = record { puts = line_put _ _ c.put_row_head-comma.ensures.puts c.put-action.ensures.puts (rw c.code.ensures at c.put_action_name-end.ensures.puts) c.put.ensures.puts; upper_bound = search rules }
