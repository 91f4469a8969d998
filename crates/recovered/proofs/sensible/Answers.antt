-- `recovered::sensible` meets its contract: test by test. Assumes nothing.
use mathlib.Core.Path.{sym, ◌∙◌}
use Rattle.base.proofs.Choice.{never}
use Rattle.recovered.proofs.Checks.{no_error, too_long, too_far, sector_low}
use Rattle.recovered.proofs.sensible.Goals as goal

pub returns-then-error-eq0 : goal.returns-then-error-eq0
returns-then-error-eq0 c = record { sensible = λ s t. no_error s (t.error ∙ c.if-error-eq0.true); in_bounds = never }

pub returns-then-restart-gt13038 : goal.returns-then-restart-gt13038
returns-then-restart-gt13038 c = record { sensible = λ s t. too_long s (λ z. c.if-error-eq0.false (sym t.error ∙ z)) (rw t.restart c.if-restart-gt13038.true); in_bounds = never }

pub returns-then-restart-error : goal.returns-then-restart-error
returns-then-restart-error c = record {
  sensible = λ s t.
      too_far s (λ z. c.if-error-eq0.false (sym t.error ∙ z)) (rw t.restart c.if-restart-gt13038.false) (rw (t.restart, t.error) c.if-restart-error.true);
  in_bounds = never;
}

pub returns : goal.returns
returns c =
    let far = c.if-restart-gt13038.false in
    let near = c.if-restart-error.false in record { sensible = λ s t. sector_low s (λ z. c.if-error-eq0.false (sym t.error ∙ z)) (rw t.restart far) (rw (t.restart, t.error) near) _ (sym t.sector); in_bounds = λ e. (far, near) }
