-- `reading_lines::put_record` meets its contract: three numbers and a line end, one behind the other. Assumes nothing.
use Rattle.reading_lines.proofs.Texts.{record_put}
use borrow.Author.Rules.{rules}
use Rattle.reading_lines.proofs.put_record.Goals as goal

pub returns : goal.returns
returns c = record { puts = record_put _ _ _ c.put_number-second.ensures.puts c.put_number-third.ensures.puts c.put_number-end.ensures.puts c.put.ensures.puts; value = search rules }
