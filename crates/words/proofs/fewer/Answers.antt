-- `words::fewer` meets its contract. Assumes nothing.
use Rattle.words.proofs.Items.{after_none, after_slash, after_other}
use borrow.Author.Rules.{rules}
use Rattle.words.proofs.fewer.Goals as goal

pub returns-then-left-eq0 : goal.returns-then-left-eq0
returns-then-left-eq0 c = record { value = after_none _ _ c.if-left-eq0.true; upper_bound = search rules }

pub returns-then-b-eq47 : goal.returns-then-b-eq47
returns-then-b-eq47 c = record { value = after_slash _ _ c.if-b-eq47.true; upper_bound = search rules }

pub returns : goal.returns
returns c = record { value = after_other _ _ c.if-b-eq47.false; upper_bound = search rules }
