-- `control::counted` meets its contract: each answer is a law of the count. Assumes nothing.
use Rattle.control.proofs.Plans.{other_count, same_count}
use Rattle.control.proofs.counted.Goals as goal

pub returns-then-c-n : goal.returns-then-c-n
returns-then-c-n c = other_count _ _ c.if-c-n.true

pub returns : goal.returns
returns c = same_count _ _ c.if-c-n.false c.chains_data.ensures
