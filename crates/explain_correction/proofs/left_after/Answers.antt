-- `explain_correction::left_after` meets its contract. Assumes nothing.
use Rattle.explain_correction.proofs.Lines.{left_same, left_none, left_fewer}
use borrow.Author.Rules.{rules}
use Rattle.explain_correction.proofs.left_after.Goals as goal

pub returns-then-b-eq0 : goal.returns-then-b-eq0
returns-then-b-eq0 c = record { value = left_same _ _ c.if-b-eq0.true; upper_bound = search rules }

pub returns-then-n-eq0 : goal.returns-then-n-eq0
returns-then-n-eq0 c = record { value = left_none _ _ c.if-b-eq0.false c.if-n-eq0.true; upper_bound = search rules }

pub returns : goal.returns
returns c = record { value = left_fewer _ _ c.if-b-eq0.false; upper_bound = search rules }
