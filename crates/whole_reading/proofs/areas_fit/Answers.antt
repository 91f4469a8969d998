-- `whole_reading::areas_fit` meets its contract: area by area. Assumes nothing.
use native.Mathlib.Omega.{arith}
use mathlib.Core.Path.{sym, ◌∙◌}
use borrow.Author.Tests.{eq-eqb, ne_eqb}
use Rattle.whole_reading.proofs.Calls.{run_not, limit_low, extent_not, restart_not, list_left}
use Rattle.whole_reading.proofs.areas_fit.Goals as goal

pub returns-then-not-run_areas : goal.returns-then-not-run_areas
returns-then-not-run_areas c = run_not _ _ _ _ _ _ _ _ _ _ (sym c.run_areas.ensures ∙ c.if-not-run_areas.true)

pub returns-then-extent-ne8 : goal.returns-then-extent-ne8
returns-then-extent-ne8 c = extent_not _ _ _ _ _ _ _ _ _ _ (sym c.run_areas.ensures ∙ c.if-not-run_areas.false) (ne_eqb _ _ c.if-extent-ne8.true)

pub returns-then-not-restart_areas : goal.returns-then-not-restart_areas
returns-then-not-restart_areas c =
    restart_not _ _ _ _ _ _ _ _ _ _ (sym c.run_areas.ensures ∙ c.if-not-run_areas.false) (eq-eqb _ _ c.if-extent-ne8.false) (sym c.restart_areas.ensures ∙ c.if-not-restart_areas.true)

pub overflow_mul-result : goal.overflow_mul-result
overflow_mul-result c =
    let a = c.args in
    let few = limit_low a.chain a.arguments a.storage a.image a.faults a.extent a.limit a.program a.restart_arguments a.list (sym c.run_areas.ensures ∙ c.if-not-run_areas.false) in
    omega arith

pub returns : goal.returns
returns c =
    list_left _ _ _ _ _ _ _ _ _ _ (sym c.run_areas.ensures ∙ c.if-not-run_areas.false) (eq-eqb _ _ c.if-extent-ne8.false) (sym c.restart_areas.ensures ∙ c.if-not-restart_areas.false)
