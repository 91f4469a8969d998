-- `explain_sense::put_bit` meets its contract. Assumes nothing.
use Rattle.text.specs.Text.{ascii}
use Rattle.explain_sense.proofs.Lines.{bit_put}
use borrow.Author.Rules.{rules}
use Rattle.explain_sense.proofs.put_bit.Goals as goal

pub returns : goal.returns
unfolding ascii
returns c = record { puts = bit_put _ c.put_digits-point.ensures.puts c.put-bit.ensures.puts c.put_digits.ensures.puts; value = search rules }
