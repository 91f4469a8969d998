-- `questions::limit_fits` meets its contract: each answer is a law of `limit_fits`. Assumes nothing.
use Rattle.questions.proofs.Areas.{limit_none, limit_some}
use Rattle.questions.proofs.limit_fits.Goals as goal

pub returns-then-n-lt1 : goal.returns-then-n-lt1
returns-then-n-lt1 c = limit_none _ c.if-n-lt1.true

pub returns : goal.returns
returns c = limit_some _ c.if-n-lt1.false
