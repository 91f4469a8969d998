-- `explain_ccws::used_in` meets its contract. Invariant: from here on as many are used as in all. Assumes nothing.
use native.Mathlib.Omega.{arith}
use mathlib.Core.Path.{◌≡◌, refl, ◌∙◌}
use Rattle.explain_ccws.specs.Ccws.{used_in}
use Rattle.explain_ccws.proofs.Lines.{used_here, used_turn, used_all}
use borrow.Author.Rules.{rules}
use Rattle.explain_ccws.proofs.used_in.Goals as goal

pub loop-i-init : goal.loop-i-init
unfolding used_in
loop-i-init c = (search rules, refl)

pub returns-then-program-i-eq0 : goal.returns-then-program-i-eq0
returns-then-program-i-eq0 c = record { value = used_here _ _ c.loop-i-test.true c.if-program-i-eq0.true ∙ c.loop-i.invariant.1; upper_bound = search rules }

pub loop-i-preserved : goal.loop-i-preserved
loop-i-preserved c = (search rules, used_turn _ _ c.loop-i-test.true c.if-program-i-eq0.false ∙ c.loop-i.invariant.1)

pub returns : goal.returns
returns c =
    let e : 8 ≡ c.loop-i.i = omega (arith, c.loop-i.invariant.0, c.loop-i-test.false) in
    record { value = e ∙ used_all _ _ c.loop-i-test.false ∙ c.loop-i.invariant.1; upper_bound = search rules }
