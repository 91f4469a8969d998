-- `control::protects` meets its contract by the mask's bits. Assumes nothing.
use mathlib.Core.Path.{sym, ◌∙◌}
use Rattle.drive.specs.Step as Step
use Rattle.control.proofs.protects.Goals as goal

pub returns-in-None : goal.returns-in-None
unfolding Step.protects
returns-in-None c = rw c.in-None.is

pub returns-then-bit : goal.returns-then-bit
unfolding Step.protects
returns-then-bit c = rw (c.in-Some.is, sym c.bit.ensures ∙ c.if-bit.true)

pub returns-in-Some : goal.returns-in-Some
unfolding Step.protects
returns-in-Some c = rw (c.in-Some.is, sym c.bit.ensures ∙ c.if-bit.false) c.bit-in-Some.ensures
