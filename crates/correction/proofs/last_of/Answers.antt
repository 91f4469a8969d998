-- `correction::last_of` meets its contract: by the count, then by CD. Assumes nothing.
use borrow.Author.Tests.{lt-ltb, le-ltb}
use Rattle.correction.proofs.last_of.Goals as goal

pub returns-then-more-c : goal.returns-then-more-c
returns-then-more-c c = let a = c.args in rw (lt-ltb a.more a.c.count c.if-more-c.true)

pub returns : goal.returns
returns c =
    let a = c.args in
    rw (le-ltb a.more a.c.count c.if-more-c.false, c.chains_data.ensures)
