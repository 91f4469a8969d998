-- `explain_ccws::put_ccw` meets its contract. Assumes nothing.
use Rattle.text.specs.Text.{ascii}
use Rattle.explain_ccws.proofs.Lines.{ccw_put}
use borrow.Author.Rules.{rules}
use Rattle.explain_ccws.proofs.put_ccw.Goals as goal

pub returns : goal.returns
unfolding ascii
returns c = record {
  puts = ccw_put _ _ _ _ c.put_head-command.ensures.puts c.put_command-operands.ensures.puts c.put_operands-argument.ensures.puts
      c.put_argument-end.ensures.puts c.put.ensures.puts;
  upper_bound = search rules;
}
