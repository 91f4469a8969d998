-- `pack::home_at` meets its contract: what stands at the place is what the field there is. Assumes nothing.
use mathlib.Core.Path.{sym, ◌∙◌}
use Rattle.fields.proofs.FieldAt.{bounds}
use Rattle.pack.proofs.Answers.{home_torn, home_field}
use Rattle.pack.proofs.home_at.Goals as goal

pub returns-in_err-f : goal.returns-in_err-f
returns-in_err-f c = c.from_residual.ensures ∙ home_torn _ _ (sym c.in_err-f.was ∙ c.field_at.ensures)

pub home_in-requires : goal.home_in-requires
home_in-requires c =
    let b = bounds _ _ (sym c.field_at.ensures ∙ c.in_ok-f.was) in record { start_le_next = b.1; next_in_bounds = b.2 }

pub returns : goal.returns
returns c = home_field _ _ (sym c.field_at.ensures ∙ c.in_ok-f.was) c.home_in.ensures
