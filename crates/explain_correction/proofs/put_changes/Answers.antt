-- `explain_correction::put_changes` meets its contract. Invariant: the lines that are left, put where the loop stands, make the whole. Assumes nothing.
use Rattle.explain_correction.specs.Correction.{change_lines}
use Rattle.explain_correction.proofs.Lines.{changes_turn, changes_none}
use borrow.Author.Rules.{rules}
use native.Mathlib.Omega.{arith}
use Rattle.explain_correction.proofs.put_changes.Goals as goal

pub loop-a-init : goal.loop-a-init
unfolding change_lines
loop-a-init c = (search rules, search rules, search rules, λ z q p. p)

pub loop-a-preserved : goal.loop-a-preserved
loop-a-preserved c = (
  search rules,
  search rules,
  omega (arith, c.loop-a.invariant.2, c.put_change-next.ensures.b_bound, c.left_after-left.ensures.value),
  λ z q p. c.loop-a.invariant.3 z q
      (changes_turn _ _ _ c.loop-a-test.true c.byte-b.ensures.value c.left_after-left.ensures.value c.put_change-next.ensures.puts z q p),
)

pub returns : goal.returns
returns c = record { puts = c.loop-a.invariant.3 _ _ (changes_none _ _ _ c.loop-a-test.false); upper_bound = search rules }
