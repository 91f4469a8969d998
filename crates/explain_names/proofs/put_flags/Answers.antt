-- `explain_names::put_flags` meets its contract. Invariant: the flags that are left, put where the loop stands, make the whole. Assumes nothing.
use Rattle.words.proofs.Each.{each_turn, each_none}
use Rattle.explain_names.specs.Names.{flags_text}
use borrow.Author.Rules.{rules}
use Rattle.explain_names.proofs.put_flags.Goals as goal

pub loop-k-init : goal.loop-k-init
unfolding flags_text
loop-k-init c = (search rules, search rules, search rules, λ z q p. p)

pub loop-k-preserved : goal.loop-k-preserved
loop-k-preserved c = (
  search rules,
  search rules,
  search rules,
  λ z q p. c.loop-k.invariant.3 z q (each_turn 8 _ _ c.loop-k-test.true c.put_flag-next.ensures.puts z q p),
)

pub returns : goal.returns
returns c = record { puts = c.loop-k.invariant.3 _ _ (each_none 8 _ _ c.loop-k-test.false); upper_bound = search rules }
