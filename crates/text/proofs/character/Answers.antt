-- `text::character` meets its contract. Assumes nothing.
use borrow.Author.Tests.{lt-ltb, le-ltb}
use Rattle.base.specs.Choice.{pick}
use Rattle.text.specs.Text as Text
use Rattle.text.proofs.character.Goals as goal

pub returns-then-d-lt10 : goal.returns-then-d-lt10
unfolding Text.character pick
returns-then-d-lt10 c = rw (lt-ltb _ _ c.if-d-lt10.true)

pub returns : goal.returns
unfolding Text.character pick
returns c = rw (le-ltb _ _ c.if-d-lt10.false)
