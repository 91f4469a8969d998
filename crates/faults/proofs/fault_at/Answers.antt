-- `faults::fault_at` meets its contract: what stands at the place is what the field there is. Assumes nothing.
use mathlib.Core.Path.{sym, ◌∙◌}
use Rattle.fields.proofs.FieldAt.{bounds}
use Rattle.faults.proofs.Answers.{fault_torn, fault_field}
use Rattle.faults.proofs.fault_at.Goals as goal

pub returns-in_err-f : goal.returns-in_err-f
returns-in_err-f c = c.from_residual.ensures ∙ fault_torn _ _ (sym c.in_err-f.was ∙ c.field_at.ensures)

pub fault_in-requires : goal.fault_in-requires
fault_in-requires c =
    let b = bounds _ _ (sym c.field_at.ensures ∙ c.in_ok-f.was) in record { start_le_next = b.1; next_in_bounds = b.2 }

pub returns : goal.returns
returns c = fault_field _ _ (sym c.field_at.ensures ∙ c.in_ok-f.was) c.fault_in.ensures
