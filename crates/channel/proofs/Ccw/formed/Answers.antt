-- `channel::Ccw::formed` meets its contract: the mask 7 is the remainder by 8. Assumes nothing.
use lib.Bits.{and_mask}
use Rattle.channel.proofs.Answers.{no_count, some_count}
use Rattle.channel.proofs.Ccw.formed.Goals as goal

pub returns-then-self-eq0 : goal.returns-then-self-eq0
returns-then-self-eq0 c = no_count _ c.if-self-eq0.true

pub returns : goal.returns
returns c = rw (and_mask c.args.self.flags 3) (some_count _ c.if-self-eq0.false)
