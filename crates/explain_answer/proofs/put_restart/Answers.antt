-- `explain_answer::put_restart` meets its contract. Assumes nothing.
use Rattle.text.specs.Text.{ascii}
use Rattle.explain_answer.proofs.Lines.{restart_put}
use borrow.Author.Rules.{rules}
use Rattle.explain_answer.proofs.put_restart.Goals as goal

pub returns : goal.returns
unfolding ascii
returns c = record {
  puts = restart_put _ _ _ _ _ c.restart_index-i.ensures c.used_in-n.ensures.value c.put_action-second.ensures.puts
      c.put_detail-third.ensures.puts c.put_ccws.ensures.puts;
  upper_bound = search rules;
}
