-- `faults::named_from` meets its contract: a fault was found, or none is missing. Assumes nothing.
use mathlib.Core.Path.{ap, ◌∙◌}
use mathlib.Core.Bool.{not}
use Rattle.faults.proofs.Places.{named_is}
use Rattle.faults.proofs.named_from.Goals as goal

pub returns : goal.returns
returns c = λ fs h. ap not c.is_some.ensures ∙ named_is _ _ _ _ _ c.find_fault.ensures fs h
