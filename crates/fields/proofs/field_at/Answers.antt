-- `fields::field_at` meets its contract: each answer is a law of `tagged_at` at the tests that led there. Assumes nothing.
use native.Mathlib.Omega.{arith}
use Rattle.fields.proofs.FieldAt.{torn_short, torn_long, whole}
use Rattle.fields.proofs.field_at.Goals as goal

pub returns-then-s-at : goal.returns-then-s-at
returns-then-s-at c = torn_short _ _ (omega arith)

pub returns-then-s-at-lt3 : goal.returns-then-s-at-lt3
returns-then-s-at-lt3 c = torn_short _ _ c.if-s-at-lt3.true

pub returns-then-s-start : goal.returns-then-s-start
returns-then-s-start c = torn_long _ _ c.if-s-at-lt3.false _ c.be16-len.ensures.value c.if-s-start.true

pub returns : goal.returns
returns c = whole _ _ c.if-s-at-lt3.false _ c.be16-len.ensures.value c.if-s-start.false
