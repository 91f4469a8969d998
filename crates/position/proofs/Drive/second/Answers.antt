-- `Drive::second` meets its contract: two steps from where the track's records begin. Assumes nothing.
use mathlib.Core.Path.{sym, ◌∙◌}
use Rattle.position.proofs.Places.{first_none, second_none, second_seen}
use Rattle.position.proofs.Drive.second.Goals as goal

pub returns-in_err-zero : goal.returns-in_err-zero
returns-in_err-zero c = rw c.from_residual.ensures (first_none _ _ (sym c.record_at.ensures.value ∙ c.in_err-zero.was))

pub returns-in_err-parts : goal.returns-in_err-parts
returns-in_err-parts c =
    let e = c.in_ok-zero.was in
    rw c.from_residual-in_err-parts.ensures (second_none _ _ _ (sym c.record_at.ensures.value ∙ e) (rw e at c.record_at.ensures.bounded) (sym c.record_at-2.ensures.value ∙ c.in_err-parts.was))

pub returns : goal.returns
returns c =
    let e = c.in_ok-zero.was in
    let f = c.in_ok-parts.was in
    second_seen _ _ _ (sym c.record_at.ensures.value ∙ e) (rw e at c.record_at.ensures.bounded) _ (sym c.record_at-2.ensures.value ∙ f) (rw f at c.record_at-2.ensures.bounded)
