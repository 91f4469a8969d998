-- `explain_ccws::put_head` meets its contract. Assumes nothing.
use Rattle.explain_ccws.proofs.Lines.{head_put}
use borrow.Author.Rules.{rules}
use Rattle.explain_ccws.proofs.put_head.Goals as goal

pub returns : goal.returns
returns c = record {
  puts = head_put _ _ _ c.wide-code.ensures.value c.put-address.ensures.puts c.put_number-colon.ensures.puts c.put-number.ensures.puts
      c.put_number-end.ensures.puts c.put.ensures.puts;
  upper_bound = search rules;
}
