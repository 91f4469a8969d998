-- `explain_sense::put_row_head` meets its contract. Assumes nothing.
use Rattle.text.specs.Text.{ascii}
use Rattle.explain_sense.proofs.Lines.{head_put}
use borrow.Author.Rules.{rules}
use Rattle.explain_sense.proofs.put_row_head.Goals as goal

pub returns : goal.returns
unfolding ascii
returns c = record { puts = head_put _ _ c.put-number.ensures.puts c.put_number-colon.ensures.puts c.put-bits.ensures.puts c.put_row_bits.ensures.puts; upper_bound = search rules }
