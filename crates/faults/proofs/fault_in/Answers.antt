-- `faults::fault_in` meets its contract: each answer is a law of `fault_in` at the tests that led there. Assumes nothing.
use Rattle.faults.proofs.Answers.{not_fault, fault_length, fault_whole}
use Rattle.faults.proofs.fault_in.Goals as goal

pub returns-then-f-ne32 : goal.returns-then-f-ne32
returns-then-f-ne32 c = not_fault _ _ c.if-f-ne32.true

pub returns-then-f-ne10 : goal.returns-then-f-ne10
returns-then-f-ne10 c = fault_length _ _ c.if-f-ne32.false c.if-f-ne10.true

pub returns : goal.returns
returns c =
    fault_whole _ _ c.if-f-ne32.false c.if-f-ne10.false c.be16.ensures.value c.be16-2.ensures.value c.byte.ensures.value c.be16-3.ensures.value
