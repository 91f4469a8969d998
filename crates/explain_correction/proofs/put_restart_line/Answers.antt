-- `explain_correction::put_restart_line` meets its contract. Assumes nothing.
use Rattle.text.specs.Text.{ascii}
use Rattle.explain_correction.proofs.Lines.{restart_put}
use borrow.Author.Rules.{rules}
use Rattle.explain_correction.proofs.put_restart_line.Goals as goal

pub returns : goal.returns
unfolding ascii
returns c = record { puts = restart_put _ c.be24-n.ensures.value c.put-number.ensures.puts c.put_number-end.ensures.puts c.put.ensures.puts; value = search rules }
