-- `heads::past_zero` meets its contract: a track begins with R0, and only at the index is it ahead. Assumes nothing.
use mathlib.Core.Path.{sym, ◌∙◌}
use Rattle.heads.proofs.Reach.{past_later, past_first, past_lost}
use Rattle.heads.proofs.past_zero.Goals as goal

pub returns-then-d-ne0 : goal.returns-then-d-ne0
returns-then-d-ne0 c = past_later _ c.args.d c.if-d-ne0.true

pub returns-in_default : goal.returns-in_default
returns-in_default c =
    past_lost _ c.args.d c.if-d-ne0.false c.requires.sound (sym c.record_at.ensures.value ∙ c.in_default.is)

pub returns : goal.returns
returns c =
    let e = c.in-Some.is in
    past_first _ c.args.d c.if-d-ne0.false _ (sym c.record_at.ensures.value ∙ e) (rw e at c.record_at.ensures.bounded)
