-- `heads::track_at` meets its contract: the definition, test by test. Assumes nothing.
use mathlib.Core.Path.{sym, ◌∙◌}
use Rattle.address.proofs.Order.{one, other}
use Rattle.heads.proofs.Next.{track_none, track_other, track_is}
use Rattle.heads.proofs.track_at.Goals as goal

pub returns-in_err-home : goal.returns-in_err-home
returns-in_err-home c = c.from_residual.ensures ∙ track_none _ _ _ (sym c.home_at.ensures ∙ c.in_err-home.was)

pub returns-then-ne : goal.returns-then-ne
returns-then-ne c =
    track_other _ _ _ _ (sym c.home_at.ensures ∙ c.in_ok-home.was) (other _ _ (sym c.ne.ensures ∙ c.if-ne.true))

pub returns : goal.returns
returns c =
    track_is _ _ _ _ (sym c.home_at.ensures ∙ c.in_ok-home.was) (one _ _ (sym c.ne.ensures ∙ c.if-ne.false))
