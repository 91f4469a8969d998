-- `explain_session::put_parts` meets its contract. Assumes nothing.
use Rattle.text.specs.Text.{ascii}
use Rattle.explain_session.proofs.Told.{parts_put}
use borrow.Author.Rules.{rules}
use Rattle.explain_session.proofs.put_parts.Goals as goal

pub returns : goal.returns
unfolding ascii
returns c =
    let a = c.args in record { puts = parts_put a.input.now a.p _ _ _ _ c.recover-r.ensures.after_after c.put_ccws-next.ensures.puts c.put_reported.ensures.puts; upper_bound = search rules }
