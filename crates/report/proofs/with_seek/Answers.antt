-- `report::with_seek` meets its contract: each answer is a law of `with_seek`, by what the tries answer. Assumes nothing.
use mathlib.Core.Path.{sym, ◌∙◌}
use Rattle.report.proofs.Places.{found_tells}
use Rattle.report.proofs.Behind.{seek_missing, seek_here, bounds_sought}
use Rattle.report.proofs.with_seek.Goals as goal

pub returns-in_default : goal.returns-in_default
returns-in_default c = record { reads = c.with_tries.ensures.reads ∙ seek_missing _ _ _ (sym c.sized_at.ensures ∙ c.in_default.is); bounded = c.with_tries.ensures.bounded }

pub with_tries-requires-2 : goal.with_tries-requires-2
with_tries-requires-2 c =
    bounds_sought c.requires (found_tells _ _ 0x14 6 (sym c.sized_at.ensures ∙ c.in-Some.is))

pub returns : goal.returns
returns c = record { reads = c.with_tries-2.ensures.reads ∙ seek_here _ _ _ (found_tells _ _ 0x14 6 (sym c.sized_at.ensures ∙ c.in-Some.is)); bounded = c.with_tries-2.ensures.bounded }
