-- `heads::protects_step` meets its contract by the mask's bits. Assumes nothing.
use mathlib.Core.Path.{sym, ◌∙◌}
use Rattle.drive.specs.Step as Step
use Rattle.heads.proofs.protects_step.Goals as goal

pub returns-in-None : goal.returns-in-None
unfolding Step.protects_step
returns-in-None c = rw c.in-None.is

pub returns-then-not-bit : goal.returns-then-not-bit
unfolding Step.protects_step
returns-then-not-bit c = rw (c.in-Some.is, sym c.bit.ensures ∙ c.if-not-bit.true)

pub returns-in-Some : goal.returns-in-Some
unfolding Step.protects_step
returns-in-Some c = rw (c.in-Some.is, sym c.bit.ensures ∙ c.if-not-bit.false) c.bit-in-Some.ensures
