-- `drive::settable` meets its contract by the mask's bits. Assumes nothing.
use mathlib.Core.Path.{sym, ◌∙◌}
use Rattle.drive.specs.Step as Step
use Rattle.drive.proofs.settable.Goals as goal

pub returns-then-bit : goal.returns-then-bit
unfolding Step.settable
returns-then-bit c = rw (sym c.bit.ensures ∙ c.if-bit.true)

pub returns-then-bit-2 : goal.returns-then-bit-2
unfolding Step.settable
returns-then-bit-2 c = rw (sym c.bit.ensures ∙ c.if-bit.false, sym c.bit-2.ensures ∙ c.if-bit-2.true)

pub returns : goal.returns
unfolding Step.settable
returns c =
    rw (sym c.bit.ensures ∙ c.if-bit.false, sym c.bit-2.ensures ∙ c.if-bit-2.false, c.bit-3.ensures)
