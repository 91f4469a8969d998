-- `report::reached_head` meets its contract: five bits are the rest of a division by 32. Assumes nothing.
use mathlib.Core.Path.{◌∙◌}
use lib.Bits.{and_mask}
use Rattle.report.proofs.reached_head.Goals as goal

pub returns : goal.returns
returns c = c.wide.ensures.value ∙ and_mask _ 5
