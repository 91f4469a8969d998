-- `text::put_digits` meets its contract. Invariant: the digits that are left of the number that is left, put at the place, make the whole.
-- Assumes nothing.
use native.Mathlib.Nat.{mod-lt}
use mathlib.Core.Path.{refl, sym, ◌∙◌}
use lib.ListN.{length-set}
use Rattle.text.proofs.Written.{digits_turn, digits_end, puts_digits}
use borrow.Author.Rules.{rules}
use native.Mathlib.Omega.{arith}
use Rattle.text.proofs.put_digits.Goals as goal

pub loop-i-init : goal.loop-i-init
loop-i-init c = (search rules, search rules, refl)

pub character-requires : goal.character-requires
character-requires c =
    omega (arith, mod-lt c.loop-i.rest c.requires.base_nonzero, c.requires.base_bound)

pub loop-i-preserved : goal.loop-i-preserved
loop-i-preserved c = (
  search rules,
  simp length-set c.loop-i.invariant.1,
  rw c.character.ensures (digits_turn _ _ _ _ _ c.loop-i-test.true) ∙ c.loop-i.invariant.2,
)

pub returns : goal.returns
returns c = record { puts = puts_digits _ _ _ _ _ _ _ (sym (digits_end _ _ _ _ _ c.loop-i-test.false) ∙ c.loop-i.invariant.2) refl; value = search rules }
