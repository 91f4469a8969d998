-- `faults::check_faults` meets its contract: each answer rewrites by the tests that led there. Assumes nothing.
use mathlib.Core.Path.{sym, ◌∙◌}
use Rattle.base.specs.Choice.{pick}
use Rattle.faults.specs.Faults.{faults_answer}
use Rattle.faults.proofs.Sound.{sound_is}
use Rattle.faults.proofs.check_faults.Goals as goal

pub returns-then-not-image_fits : goal.returns-then-not-image_fits
unfolding faults_answer pick
returns-then-not-image_fits c = rw (sym c.image_fits.ensures ∙ c.if-not-image_fits.true)

pub returns-then-not-faults_fit : goal.returns-then-not-faults_fit
unfolding faults_answer pick
returns-then-not-faults_fit c =
    let i = sym c.image_fits.ensures ∙ c.if-not-image_fits.false in
    rw (i, sym c.faults_fit.ensures ∙ c.if-not-faults_fit.true)

pub returns-then-not-well_formed : goal.returns-then-not-well_formed
unfolding faults_answer pick
returns-then-not-well_formed c =
    let i = sym c.image_fits.ensures ∙ c.if-not-image_fits.false in
    let f = sym c.faults_fit.ensures ∙ c.if-not-faults_fit.false in
    rw (i, f, sym c.well_formed-2.ensures ∙ c.if-not-well_formed.true)

pub returns-then-sound_faults : goal.returns-then-sound_faults
unfolding faults_answer pick
returns-then-sound_faults c =
    let i = sym c.image_fits.ensures ∙ c.if-not-image_fits.false in
    let f = sym c.faults_fit.ensures ∙ c.if-not-faults_fit.false in
    let w = sym c.well_formed-2.ensures ∙ c.if-not-well_formed.false in
    rw (i, f, w, sound_is _ _ _ w c.sound_faults.ensures c.if-sound_faults.true)

pub returns : goal.returns
unfolding faults_answer pick
returns c =
    let i = sym c.image_fits.ensures ∙ c.if-not-image_fits.false in
    let f = sym c.faults_fit.ensures ∙ c.if-not-faults_fit.false in
    let w = sym c.well_formed-2.ensures ∙ c.if-not-well_formed.false in
    rw (i, f, w, sound_is _ _ _ w c.sound_faults.ensures c.if-sound_faults.false)
