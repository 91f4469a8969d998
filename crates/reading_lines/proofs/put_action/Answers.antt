-- `reading_lines::put_action` meets its contract. Assumes nothing.
use Rattle.reading_lines.proofs.Texts.{five_a_put, five_put}
use borrow.Author.Rules.{rules}
use Rattle.reading_lines.proofs.put_action.Goals as goal

pub returns-then-action-eq21 : goal.returns-then-action-eq21
returns-then-action-eq21 c = record { puts = five_a_put c.if-action-eq21.true c.put.ensures.puts; upper_bound = search rules }

pub returns : goal.returns
returns c = record { puts = five_put c.if-action-eq21.false c.put-2.ensures.puts; upper_bound = search rules }
