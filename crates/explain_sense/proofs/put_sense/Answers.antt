-- `explain_sense::put_sense` meets its contract. Invariant: the bits that are left, put where the loop stands, make the whole. Assumes nothing.
use Rattle.words.proofs.Each.{each_start, each_turn, each_none}
use Rattle.explain_sense.proofs.Lines.{lines_put}
use borrow.Author.Rules.{rules}
use Rattle.explain_sense.proofs.put_sense.Goals as goal

pub loop-i-init : goal.loop-i-init
loop-i-init c = (search rules, search rules, search rules, λ z q p. each_start 24 _ p)

pub loop-i-preserved : goal.loop-i-preserved
loop-i-preserved c = (
  search rules,
  search rules,
  search rules,
  λ z q p. c.loop-i.invariant.3 z q (each_turn 24 _ _ c.loop-i-test.true c.put_sense_bit-next.ensures.puts z q p),
)

pub returns : goal.returns
returns c =
    let bits = c.loop-i.invariant.3 _ _ (each_none 24 _ _ c.loop-i-test.false) in record { puts = lines_put _ bits c.put_truncation.ensures.puts; upper_bound = search rules }
