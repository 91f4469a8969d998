-- `reading_lines::put_how` meets its contract. Assumes nothing.
use Rattle.reading_lines.proofs.Texts.{ended_put, limited_put, stopped_put}
use borrow.Author.Rules.{rules}
use Rattle.reading_lines.proofs.put_how.Goals as goal

pub returns-in-Ended : goal.returns-in-Ended
returns-in-Ended c = record { puts = ended_put c.in-Ended.is c.put.ensures.puts; upper_bound = search rules }

pub returns-in-Limited : goal.returns-in-Limited
returns-in-Limited c = record { puts = limited_put c.in-Limited.is c.put-in-Limited.ensures.puts; upper_bound = search rules }

pub returns-in-Stop : goal.returns-in-Stop
returns-in-Stop c = record { puts = stopped_put c.in-Stop.is c.wide.ensures.value c.put-next.ensures.puts c.put_number.ensures.puts; upper_bound = search rules }
