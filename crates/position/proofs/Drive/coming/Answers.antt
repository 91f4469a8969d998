-- `Drive::coming` meets its contract: the record where the drive stands, or what comes behind the index. Assumes nothing.
use mathlib.Core.Path.{sym, ◌∙◌}
use borrow.Author.Tests.{not-true, not-false}
use Rattle.position.proofs.Search.{search_off, search_here}
use Rattle.position.proofs.Drive.coming.Goals as goal

pub returns-then-not-self : goal.returns-then-not-self
returns-then-not-self c =
    search_off _ c.args.self (c.requires.off (not-true _ c.if-not-self.true))

pub round-requires : goal.round-requires
round-requires c = record { standing = c.requires; found_value = not-false _ c.if-not-self.false; here_value = sym c.record_at.ensures.value ∙ c.in_default.is }

pub returns : goal.returns
returns c =
    let o = c.requires.on (not-false _ c.if-not-self.false) in
    let e = c.in-Some.is in
    search_here _ _ o.0 o.1 _ c.requires.few (sym c.record_at.ensures.value ∙ e) (rw e at c.record_at.ensures.bounded)
