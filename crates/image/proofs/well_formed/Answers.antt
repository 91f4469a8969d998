-- `image::well_formed` meets its contract. Invariant: the image is well formed if what is left is, behind the track passed.
-- Measure: the bytes left. Assumes nothing.
use mathlib.Core.Path.{refl, sym, ◌∙◌}
use Rattle.image.specs.Image.{well_formed}
use Rattle.image.proofs.Pass.{all_sound}
use native.Mathlib.Omega.{arith}
use Rattle.image.proofs.well_formed.Goals as goal

pub loop-here-init : goal.loop-here-init
loop-here-init c = (refl, omega arith)

pub returns-in_default : goal.returns-in_default
unfolding well_formed
returns-in_default c =
    let i = c.loop-here.invariant in
    sym (i.0 ∙ rw c.in_default.is at c.track_end.ensures)

pub loop-here-smaller : goal.loop-here-smaller
loop-here-smaller c =
    let t = rw c.in-Some.is at c.track_end.ensures in
    omega arith

pub loop-here-preserved : goal.loop-here-preserved
loop-here-preserved c =
    let t = rw c.in-Some.is at c.track_end.ensures in
    (c.loop-here.invariant.0 ∙ t.2, t.1)

pub returns : goal.returns
unfolding well_formed
returns c = sym (c.loop-here.invariant.0 ∙ all_sound _ _ _ _ c.loop-here-test.false)
