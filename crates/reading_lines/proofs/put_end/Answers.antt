-- `reading_lines::put_end` meets its contract. Assumes nothing.
use Rattle.reading_lines.proofs.Texts.{end_put}
use borrow.Author.Rules.{rules}
use Rattle.reading_lines.proofs.put_end.Goals as goal

pub returns : goal.returns
returns c = record { puts = end_put _ _ c.put_how-next.ensures.puts c.put_csw.ensures.puts; upper_bound = search rules }
