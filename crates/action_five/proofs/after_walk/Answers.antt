-- `action_five::after_walk` meets its contract: the mask, then whether the chain ends there. Assumes nothing.
use mathlib.Core.Path.{sym, ◌∙◌}
use Rattle.action_five.proofs.Searched.{fetches, ends_there, goes_on}
use Rattle.action_five.proofs.after_walk.Goals as goal

pub returns-then-fetch_mode : goal.returns-then-fetch_mode
returns-then-fetch_mode c =
    let a = c.args in record { after_walk = fetches a.chain.now a.t a.e a.wrong _ (sym c.fetch_mode.ensures ∙ c.if-fetch_mode.true) c.pattern.ensures; goes_low = tt }

pub returns-then-ends : goal.returns-then-ends
returns-then-ends c =
    let a = c.args in
    let m = sym c.fetch_mode.ensures ∙ c.if-fetch_mode.false in record { after_walk = ends_there a.chain.now a.t a.e a.wrong m _ _ (sym c.ends.ensures ∙ c.if-ends.true) c.pattern-then-ends.ensures c.less_unit_check.ensures; goes_low = tt }

pub returns : goal.returns
returns c =
    let a = c.args in
    let m = sym c.fetch_mode.ensures ∙ c.if-fetch_mode.false in record { after_walk = goes_on a.chain.now a.t a.e a.wrong m _ (sym c.ends.ensures ∙ c.if-ends.false) c.go_on.ensures.goes_on; goes_low = c.go_on.ensures.goes_low }
