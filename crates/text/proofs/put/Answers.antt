-- `text::put` meets its contract. Invariant: the bytes that are left, put where the loop stands, make the whole.
-- Assumes nothing.
use native.Mathlib.Nat.{add-zero}
use mathlib.Core.Path.{refl, sym, ◌∙◌}
use lib.ListN.{length-set}
use Rattle.text.proofs.Written.{put_turn, put_end}
use borrow.Author.Rules.{rules}
use Rattle.text.proofs.put.Goals as goal

pub loop-i-init : goal.loop-i-init
loop-i-init c = (search rules, search rules, rw add-zero)

pub loop-i-preserved : goal.loop-i-preserved
loop-i-preserved c = (
  search rules,
  simp length-set c.loop-i.invariant.1,
  put_turn _ _ _ _ c.loop-i-test.true ∙ c.loop-i.invariant.2,
)

pub returns : goal.returns
returns c = record { puts = record { bytes = sym (put_end _ _ _ _ c.loop-i-test.false) ∙ c.loop-i.invariant.2; next = refl }; value = search rules }
