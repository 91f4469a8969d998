-- `explain_ccws::put_operands` meets its contract. Assumes nothing.
use Rattle.text.specs.Text.{ascii}
use Rattle.explain_ccws.proofs.Lines.{operands_put}
use borrow.Author.Rules.{rules}
use Rattle.explain_ccws.proofs.put_operands.Goals as goal

pub returns : goal.returns
unfolding ascii
returns c = record {
  puts = operands_put _ c.put-address.ensures.puts c.put_number-comma.ensures.puts c.put-count.ensures.puts c.put_number-flags.ensures.puts
      c.put_flags.ensures.puts;
  upper_bound = search rules;
}
