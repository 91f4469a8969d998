-- The text fits, and is read back from the front of the area.
use Rattle.standard_input.proofs.Front.{text_front}
use Rattle.explain.proofs.answer.Goals as goal

pub returns-clause-out_after : goal.returns-clause-out_after
returns-clause-out_after c = text_front _ _ _ _ c.run.ensures.text c.run.ensures.length
