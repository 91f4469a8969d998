-- `channel::stands` meets its contract: an area of n bytes has n / 8 CCWs. Assumes nothing.
use Rattle.channel.proofs.Answers.{misplaced, counted}
use Rattle.channel.proofs.stands.Goals as goal

pub returns-then-a-ne0 : goal.returns-then-a-ne0
returns-then-a-ne0 c = misplaced _ _ c.if-a-ne0.true

pub returns : goal.returns
returns c = counted _ _ c.if-a-ne0.false
