-- `reading_answer::put_over` meets its contract: the CSW, and three bytes behind it. Assumes nothing.
use Rattle.reading_answer.proofs.Bytes.{second_fits, third_fits, over_written}
use Rattle.reading_answer.proofs.put_over.Goals as goal

pub bounds-answer-9 : goal.bounds-answer-9
bounds-answer-9 c =
    second_fits c.args.o.csw c.args.answer.now _ c.requires.answer_len c.put_csw.ensures _

pub bounds-answer-10 : goal.bounds-answer-10
bounds-answer-10 c =
    third_fits c.args.o.csw c.args.answer.now _ c.requires.answer_len c.put_csw.ensures _ _

pub returns : goal.returns
returns c =
    over_written c.args.o c.args.answer.now _ _ c.requires.answer_len c.put_csw.ensures c.stop_number.ensures
