-- `explain_sense::put_row_bit` meets its contract. Assumes nothing.
use mathlib.Core.Path.{sym, ◌∙◌}
use Rattle.text.specs.Text.{ascii}
use Rattle.explain_sense.proofs.Lines.{asked_off, asked_put}
use borrow.Author.Rules.{rules}
use Rattle.explain_sense.proofs.put_row_bit.Goals as goal

pub returns-then-not-bit_in : goal.returns-then-not-bit_in
returns-then-not-bit_in c = record { puts = asked_off _ _ _ _ (sym c.bit_in.ensures ∙ c.if-not-bit_in.true); upper_bound = search rules }

pub returns : goal.returns
unfolding ascii
returns c = record { puts = asked_put _ _ (sym c.bit_in.ensures ∙ c.if-not-bit_in.false) c.put-bit.ensures.puts c.put_bit.ensures.puts; upper_bound = search rules }
