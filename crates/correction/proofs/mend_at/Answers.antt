-- `correction::mend_at` meets its contract: by whether the byte stayed. Assumes nothing.
use Rattle.base.specs.Bits.{xored_at}
use Rattle.recovery.specs.Correct.{mend}
use Rattle.correction.proofs.mend_at.Goals as goal

pub returns-in-Some : goal.returns-in-Some
unfolding mend xored_at
returns-in-Some c = rw c.in-Some.is c.exclusive_or.ensures

pub returns-in-None : goal.returns-in-None
unfolding mend
returns-in-None c = rw c.in-None.is
