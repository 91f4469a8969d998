-- `explain_answer::put_csw` meets its contract. Assumes nothing.
use Rattle.text.specs.Text.{ascii}
use Rattle.explain_answer.proofs.Lines.{csw_put}
use borrow.Author.Rules.{rules}
use Rattle.explain_answer.proofs.put_csw.Goals as goal

pub returns : goal.returns
unfolding ascii
returns c = record { puts = csw_put _ c.put-next.ensures.puts c.put_csw.ensures.puts; value = search rules }
