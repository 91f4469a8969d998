-- `reading_lines::put_refusal` meets its contract. Assumes nothing.
use Rattle.reading_lines.proofs.Texts.{refusal_put}
use borrow.Author.Rules.{rules}
use Rattle.reading_lines.proofs.put_refusal.Goals as goal

pub returns : goal.returns
returns c = record { puts = refusal_put _ c.put_refused-end.ensures.puts c.put.ensures.puts; value = search rules }
