-- `image::fits` meets its contract: each answer is a law of `fits_in`. Assumes nothing.
use mathlib.Core.Path.{sym, ◌∙◌}
use Rattle.address.proofs.Order.{one, other}
use Rattle.image.proofs.Pass.{other_track, same_track}
use Rattle.image.proofs.fits.Goals as goal

pub returns-then-ne : goal.returns-then-ne
returns-then-ne c = other_track _ _ (other _ _ (sym c.ne.ensures ∙ c.if-ne.true))

pub returns : goal.returns
returns c = same_track _ _ (one _ _ (sym c.ne.ensures ∙ c.if-ne.false))
