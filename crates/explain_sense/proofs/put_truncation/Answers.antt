-- `explain_sense::put_truncation` meets its contract. Assumes nothing.
use mathlib.Core.Path.{sym, ◌∙◌}
use Rattle.text.specs.Text.{ascii}
use Rattle.explain_sense.proofs.Lines.{other_format, whole_count, truncated}
use borrow.Author.Rules.{rules}
use Rattle.explain_sense.proofs.put_truncation.Goals as goal

pub returns-then-sense-ne83 : goal.returns-then-sense-ne83
returns-then-sense-ne83 c = record { puts = other_format _ _ _ c.if-sense-ne83.true; upper_bound = search rules }

pub returns-then-not-bit : goal.returns-then-not-bit
returns-then-not-bit c = record { puts = whole_count _ c.if-sense-ne83.false _ _ (sym c.bit.ensures ∙ c.if-not-bit.true); upper_bound = search rules }

pub returns : goal.returns
unfolding ascii
returns c = record { puts = truncated _ c.if-sense-ne83.false (sym c.bit.ensures ∙ c.if-not-bit.false) c.put.ensures.puts; upper_bound = search rules }
