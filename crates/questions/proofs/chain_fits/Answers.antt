-- `questions::chain_fits` meets its contract: each answer is a law of `chain_fits`. Assumes nothing.
use Rattle.questions.proofs.Areas.{chain_short, chain_long, chain_ccws}
use Rattle.questions.proofs.chain_fits.Goals as goal

pub returns-then-n-lt8 : goal.returns-then-n-lt8
returns-then-n-lt8 c = chain_short _ c.if-n-lt8.true

pub returns-then-n-gt2048 : goal.returns-then-n-gt2048
returns-then-n-gt2048 c = chain_long _ c.if-n-lt8.false c.if-n-gt2048.true

pub returns : goal.returns
returns c = chain_ccws _ c.if-n-lt8.false c.if-n-gt2048.false
