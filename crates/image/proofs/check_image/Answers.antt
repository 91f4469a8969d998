-- `image::check_image` meets its contract: each answer rewrites by the tests that led there. Assumes nothing.
use mathlib.Core.Path.{sym, ◌∙◌}
use Rattle.base.specs.Choice.{pick}
use Rattle.image.specs.Image.{image_answer}
use Rattle.image.proofs.check_image.Goals as goal

pub returns-then-not-image_fits : goal.returns-then-not-image_fits
unfolding image_answer pick
returns-then-not-image_fits c = rw (sym c.image_fits.ensures ∙ c.if-not-image_fits.true)

pub returns-then-well_formed : goal.returns-then-well_formed
unfolding image_answer pick
returns-then-well_formed c = rw (sym c.image_fits.ensures ∙ c.if-not-image_fits.false, sym c.well_formed-2.ensures ∙ c.if-well_formed.true)

pub returns : goal.returns
unfolding image_answer pick
returns c = rw (sym c.image_fits.ensures ∙ c.if-not-image_fits.false, sym c.well_formed-2.ensures ∙ c.if-well_formed.false)
