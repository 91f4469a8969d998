-- `words::end_of` meets its contract. Invariant: the text left ends where the whole does. Assumes nothing.
use native.Mathlib.Omega.{arith}
use mathlib.Core.Path.{◌≡◌, refl, ◌∙◌}
use lib.ListN.{length}
use Rattle.words.proofs.Items.{ends_turn, ends_here, ends_last}
use borrow.Author.Rules.{rules}
use Rattle.words.proofs.end_of.Goals as goal

pub loop-at-init : goal.loop-at-init
loop-at-init c = (search rules, refl)

pub returns-then-list-at-eq47 : goal.returns-then-list-at-eq47
returns-then-list-at-eq47 c = record { value = ends_here _ _ c.loop-at-test.true c.if-list-at-eq47.true ∙ c.loop-at.invariant.1; upper_bound = search rules }

pub loop-at-preserved : goal.loop-at-preserved
loop-at-preserved c = (search rules, ends_turn _ _ c.loop-at-test.true c.if-list-at-eq47.false ∙ c.loop-at.invariant.1)

pub returns : goal.returns
returns c =
    let e : length c.args.list.now ≡ c.loop-at.at = omega (arith, c.loop-at.invariant.0, c.loop-at-test.false) in
    record { value = e ∙ ends_last _ _ c.loop-at-test.false ∙ c.loop-at.invariant.1; upper_bound = search rules }
