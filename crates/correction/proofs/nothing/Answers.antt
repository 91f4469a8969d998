-- `correction::nothing` meets its contract: no byte stayed. Assumes nothing.
use Rattle.correction.proofs.nothing.Goals as goal

pub returns : goal.returns
returns c = rw c.nowhere.ensures
