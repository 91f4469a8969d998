-- `status::put_refused` meets its contract. Assumes nothing.
use Rattle.status.proofs.Texts.{refused_put}
use borrow.Author.Rules.{rules}
use Rattle.status.proofs.put_refused.Goals as goal

pub returns : goal.returns
returns c = record { puts = refused_put _ c.from.ensures c.wide.ensures.value c.put-number.ensures.puts c.put_number.ensures.puts; value = search rules }
