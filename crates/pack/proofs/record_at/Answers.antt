-- `pack::record_at` meets its contract: what stands at the place is what the field there is. Assumes nothing.
use mathlib.Core.Path.{sym, ◌∙◌}
use Rattle.fields.proofs.FieldAt.{bounds}
use Rattle.pack.proofs.Answers.{record_torn, record_field}
use Rattle.pack.proofs.record_at.Goals as goal

pub returns-in_err-f : goal.returns-in_err-f
returns-in_err-f c = record { value = c.from_residual.ensures ∙ record_torn _ _ (sym c.in_err-f.was ∙ c.field_at.ensures); bounded = rw c.from_residual.ensures tt }

pub record_in-requires : goal.record_in-requires
record_in-requires c =
    let b = bounds _ _ (sym c.field_at.ensures ∙ c.in_ok-f.was) in record { start_le_next = b.1; next_in_bounds = b.2 }

pub returns : goal.returns
returns c = record { value = record_field _ _ (sym c.field_at.ensures ∙ c.in_ok-f.was) c.record_in.ensures.value; bounded = c.record_in.ensures.bounded }
