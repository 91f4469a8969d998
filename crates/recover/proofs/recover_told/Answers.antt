-- `recover::recover_told` meets its contract: what is decided, carried out. Assumes nothing.
use mathlib.Core.Path.{refl, ◌∙◌}
use Rattle.recover.proofs.recover_told.Goals as goal

pub returns : goal.returns
returns c = λ r u. c.carry_out.ensures ∙ c.decide-d.ensures.decides_in r _ _ _ u refl
