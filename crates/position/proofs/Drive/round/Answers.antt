-- `Drive::round` meets its contract: behind the index comes R0, unless the index was passed before. Assumes nothing.
use mathlib.Core.Path.{sym, ◌∙◌}
use Rattle.position.proofs.Search.{search_twice, search_zero, search_lost}
use Rattle.position.proofs.Drive.round.Goals as goal

pub returns-then-self-eq1 : goal.returns-then-self-eq1
returns-then-self-eq1 c =
    let o = c.requires.standing.on c.requires.found_value in
    search_twice _ _ o.0 o.1 c.requires.here_value c.if-self-eq1.true

pub returns-in_err-parts : goal.returns-in_err-parts
returns-in_err-parts c =
    let o = c.requires.standing.on c.requires.found_value in
    rw c.from_residual.ensures (search_lost _ _ o.0 o.1 c.requires.standing (sym c.record_at.ensures.value ∙ c.in_err-parts.was))

pub returns : goal.returns
returns c =
    let o = c.requires.standing.on c.requires.found_value in
    let e = c.in_ok-parts.was in
    search_zero _ _ o.0 o.1 c.requires.here_value c.requires.standing.few c.if-self-eq1.false _ (sym c.record_at.ensures.value ∙ e) (rw e at c.record_at.ensures.bounded)
