-- `Drive::take` meets its contract: which record is taken is a matter of `just` and of what was just passed. Assumes nothing.
use mathlib.Core.Path.{sym, ◌∙◌}
use borrow.Author.Tests.{not-true, not-false}
use Rattle.base.proofs.Choice.{and_left, and_right}
use Rattle.position.proofs.Take.{take_off, as_just}
use Rattle.position.proofs.Drive.take.Goals as goal

pub returns-then-not-self : goal.returns-then-not-self
returns-then-not-self c = record { takes_for = take_off _ c.args.self _ _ (c.requires.off (not-true _ c.if-not-self.true)); taken_stands = tt }

pub take_passed-requires : goal.take_passed-requires
take_passed-requires c =
    let both = sym c.takes_passed.ensures ∙ c.if-takes_passed.true in record { standing = c.requires; found_value = not-false _ c.if-not-self.false; passed_value = and_right c.args.just c.args.self.passed both }

pub returns-then-takes_passed : goal.returns-then-takes_passed
returns-then-takes_passed c =
    let both = sym c.takes_passed.ensures ∙ c.if-takes_passed.true in record { takes_for = as_just _ c.args.self _ _ c.take_passed.result (and_left c.args.just c.args.self.passed both) c.take_passed.ensures.takes_for; taken_stands = c.take_passed.ensures.taken_stands }

pub take_ahead-requires : goal.take_ahead-requires
take_ahead-requires c = record { standing = c.requires; found_value = not-false _ c.if-not-self.false; passed_value = sym c.takes_passed.ensures ∙ c.if-takes_passed.false }
