-- `explain_answer::put_head` meets its contract. Assumes nothing.
use Rattle.text.specs.Text.{ascii}
use Rattle.recovery.specs.Recovery.{reached_head}
use Rattle.explain_answer.proofs.Lines.{head_put}
use borrow.Author.Rules.{rules}
use Rattle.explain_answer.proofs.put_head.Goals as goal

pub returns : goal.returns
unfolding ascii reached_head
returns c = record { puts = head_put _ c.reached_head-head.ensures c.put-number.ensures.puts c.put_number-rest.ensures.puts c.put.ensures.puts; upper_bound = search rules }
