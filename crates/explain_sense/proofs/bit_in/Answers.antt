-- `explain_sense::bit_in` meets its contract. Assumes nothing.
use Rattle.explain_sense.specs.Sense.{bit_in}
use Rattle.explain_sense.proofs.bit_in.Goals as goal

pub returns : goal.returns
unfolding bit_in
returns c = c.bit.ensures
