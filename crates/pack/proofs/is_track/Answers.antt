-- `pack::is_track` meets its contract: each answer is a law of `is_track`. Assumes nothing.
use mathlib.Core.Path.{sym, ◌∙◌}
use Rattle.pack.proofs.Answers.{no_track, track_same}
use Rattle.address.specs.Order.{same}
use Rattle.pack.proofs.is_track.Goals as goal

pub returns-in_default : goal.returns-in_default
returns-in_default c = no_track _ _ _ (sym c.home_in.ensures ∙ c.in_default.is)

pub returns : goal.returns
unfolding same
returns c = c.eq.ensures ∙ track_same _ _ _ _ (sym c.home_in.ensures ∙ c.in-Some.is)
