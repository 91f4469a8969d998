-- `explain_correction::put_correction` meets its contract. Assumes nothing.
use Rattle.explain_correction.proofs.Lines.{correction_put}
use borrow.Author.Rules.{rules}
use Rattle.explain_correction.proofs.put_correction.Goals as goal

pub returns : goal.returns
returns c = record { puts = correction_put _ _ c.put_restart_line-second.ensures.puts c.put_error_line-third.ensures.puts c.put_changes.ensures.puts; upper_bound = search rules }
