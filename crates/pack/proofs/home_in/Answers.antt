-- `pack::home_in` meets its contract: each answer is a law of `home_in` at the tests that led there. Assumes nothing.
use Rattle.pack.proofs.Answers.{not_home, home_length, home_flag, home_zero, home_whole}
use Rattle.pack.proofs.home_in.Goals as goal

pub returns-then-f-ne1 : goal.returns-then-f-ne1
returns-then-f-ne1 c = not_home _ _ c.if-f-ne1.true

pub returns-then-f-ne5 : goal.returns-then-f-ne5
returns-then-f-ne5 c = home_length _ _ c.if-f-ne1.false c.if-f-ne5.true

pub returns-then-byte-ne0 : goal.returns-then-byte-ne0
returns-then-byte-ne0 c = home_flag _ _ c.if-f-ne1.false c.if-f-ne5.false (rw c.byte.ensures.value at c.if-byte-ne0.true)

pub returns-then-byte-ne0-2 : goal.returns-then-byte-ne0-2
returns-then-byte-ne0-2 c =
    home_zero _ _ c.if-f-ne1.false c.if-f-ne5.false (rw c.byte.ensures.value at c.if-byte-ne0.false)
    (rw c.byte-2.ensures.value at c.if-byte-ne0-2.true)

pub returns : goal.returns
returns c =
    home_whole _ _ c.if-f-ne1.false c.if-f-ne5.false (rw c.byte.ensures.value at c.if-byte-ne0.false)
    (rw c.byte-2.ensures.value at c.if-byte-ne0-2.false) c.be16.ensures.value c.byte-3.ensures.value
