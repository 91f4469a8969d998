-- `report::sized_at` meets its contract: each answer is a law of `sized_at` at the tests that led there. Assumes nothing.
use mathlib.Core.Path.{sym, ◌∙◌}
use Rattle.fields.proofs.WantedAt.{wanted_bounds}
use Rattle.report.proofs.Places.{not_there, other_length, stands}
use Rattle.report.proofs.sized_at.Goals as goal

pub returns-in_err-f : goal.returns-in_err-f
returns-in_err-f c = c.from_residual.ensures ∙ not_there _ _ _ _ (sym c.wanted_at.ensures ∙ c.in_err-f.was)

pub overflow_sub-f : goal.overflow_sub-f
overflow_sub-f c = (wanted_bounds _ _ _ (sym c.wanted_at.ensures ∙ c.in_ok-f.was)).1

pub returns-then-f-n : goal.returns-then-f-n
returns-then-f-n c = other_length _ _ _ _ (sym c.wanted_at.ensures ∙ c.in_ok-f.was) c.if-f-n.true

pub returns : goal.returns
returns c = stands _ _ _ _ (sym c.wanted_at.ensures ∙ c.in_ok-f.was) c.if-f-n.false
