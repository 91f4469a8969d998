-- `pack::record_in` meets its contract: each answer is a law of `place_in` at the tests that led there. Assumes nothing.
use Rattle.pack.proofs.Answers.{not_record, record_short, record_length, record_whole}
use borrow.Author.Rules.{rules}
use native.Mathlib.Omega.{arith}
use Rattle.pack.proofs.record_in.Goals as goal

pub returns-then-f-ne2 : goal.returns-then-f-ne2
returns-then-f-ne2 c = record { value = not_record _ _ c.if-f-ne2.true; bounded = tt }

pub returns-then-f-lt8 : goal.returns-then-f-lt8
returns-then-f-lt8 c = record { value = record_short _ _ c.if-f-ne2.false c.if-f-lt8.true; bounded = tt }

pub returns-then-f-key : goal.returns-then-f-key
returns-then-f-key c = record { value = record_length _ _ c.if-f-ne2.false c.if-f-lt8.false _ _ c.byte-key.ensures.value c.be16-len.ensures.value c.if-f-key.true; bounded = tt }

pub returns : goal.returns
returns c = record {
  value = record_whole _ _ c.if-f-ne2.false c.if-f-lt8.false _ _ c.byte-key.ensures.value c.be16-len.ensures.value
      c.if-f-key.false c.be16.ensures.value c.be16-2.ensures.value c.byte.ensures.value;
  bounded = record {
    number = c.byte.ensures.upper_bound;
    key_first = omega arith;
    key_short = omega arith;
    body_first = omega arith;
    body_short = omega arith;
    inside = search rules;
  };
}
