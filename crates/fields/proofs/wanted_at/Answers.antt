-- `fields::wanted_at` meets its contract: each answer is a law of `wanted_at` at the tests that led there. Assumes nothing.
use mathlib.Core.Path.{sym, ◌∙◌}
use Rattle.fields.proofs.WantedAt.{wanted_torn, wanted_other, wanted_stands}
use Rattle.fields.proofs.wanted_at.Goals as goal

pub returns-in_err-f : goal.returns-in_err-f
returns-in_err-f c = c.from_residual.ensures ∙ wanted_torn _ _ _ (sym c.field_at.ensures ∙ c.in_err-f.was)

pub returns-then-f-tag : goal.returns-then-f-tag
returns-then-f-tag c = wanted_other _ _ _ (sym c.field_at.ensures ∙ c.in_ok-f.was) c.if-f-tag.true

pub returns : goal.returns
returns c = wanted_stands _ _ _ (sym c.field_at.ensures ∙ c.in_ok-f.was) c.if-f-tag.false
