-- `explain_ccws::put_ccws` meets its contract. Invariant: the lines that are left, put where the loop stands, make the whole. Assumes nothing.
use Rattle.words.proofs.Each.{each_start, each_turn, each_none}
use Rattle.explain_ccws.specs.Ccws.{ccw_lines}
use borrow.Author.Rules.{rules}
use Rattle.explain_ccws.proofs.put_ccws.Goals as goal

pub loop-i-init : goal.loop-i-init
unfolding ccw_lines
loop-i-init c = (search rules, search rules, search rules, λ z q p. each_start _ _ p)

pub loop-i-preserved : goal.loop-i-preserved
loop-i-preserved c = (
  search rules,
  search rules,
  search rules,
  λ z q p. c.loop-i.invariant.3 z q (each_turn _ _ _ c.loop-i-test.true c.put_slot-next.ensures.puts z q p),
)

pub returns : goal.returns
returns c = record { puts = c.loop-i.invariant.3 _ _ (each_none _ _ _ c.loop-i-test.false); upper_bound = search rules }
