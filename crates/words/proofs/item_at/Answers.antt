-- `words::item_at` meets its contract. Invariant: what is left of the way leads where the whole does. Assumes nothing.
use native.Mathlib.Omega.{arith}
use mathlib.Core.Path.{◌≡◌, refl, ap, ◌∙◌}
use lib.ListN.{length, drop}
use Rattle.words.proofs.Items.{rest_turn, rest_none, rest_end}
use borrow.Author.Rules.{rules}
use Rattle.words.proofs.item_at.Goals as goal

pub loop-at-init : goal.loop-at-init
loop-at-init c = (search rules, refl)

pub returns-then-left-eq0 : goal.returns-then-left-eq0
returns-then-left-eq0 c = record { list_value = rest_none _ _ c.if-left-eq0.true ∙ c.loop-at.invariant.1; upper_bound = search rules }

pub loop-at-preserved : goal.loop-at-preserved
loop-at-preserved c =
    (search rules, rest_turn _ _ _ c.loop-at-test.true c.if-left-eq0.false c.fewer-left.ensures.value ∙ c.loop-at.invariant.1)

pub returns : goal.returns
returns c =
    let s = c.args.list.now in
    let e : length s ≡ c.loop-at.at = omega (arith, c.loop-at.invariant.0, c.loop-at-test.false) in
    record { list_value = ap (λ k. drop k s) e ∙ rest_end _ _ _ c.loop-at-test.false ∙ c.loop-at.invariant.1; upper_bound = search rules }
