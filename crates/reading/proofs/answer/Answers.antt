-- The storage that is lent is 4,096 zeros; the text fits, and is read back from the front of the area.
use Rattle.reading_session.specs.Session.{printed}
use Rattle.standard_input.proofs.Front.{text_front}
use Rattle.reading.proofs.answer.Goals as goal

pub returns-clause-out_after : goal.returns-clause-out_after
unfolding printed
returns-clause-out_after c = text_front _ _ _ _ c.run.ensures.text c.run.ensures.length
