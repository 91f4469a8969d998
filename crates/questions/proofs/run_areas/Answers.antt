-- `questions::run_areas` meets its contract: each answer rewrites by the tests that led there. Assumes nothing.
use mathlib.Core.Path.{sym, ◌∙◌}
use Rattle.questions.specs.Areas.{run_areas}
use Rattle.questions.proofs.run_areas.Goals as goal

pub returns-then-not-chain_fits : goal.returns-then-not-chain_fits
unfolding run_areas
returns-then-not-chain_fits c = rw (sym c.chain_fits.ensures ∙ c.if-not-chain_fits.true)

pub returns-then-not-arguments_fit : goal.returns-then-not-arguments_fit
unfolding run_areas
returns-then-not-arguments_fit c =
    rw (
      sym c.chain_fits.ensures ∙ c.if-not-chain_fits.false,
      sym c.arguments_fit.ensures ∙ c.if-not-arguments_fit.true,
    )

pub returns-then-not-storage_fits : goal.returns-then-not-storage_fits
unfolding run_areas
returns-then-not-storage_fits c =
    rw (
      sym c.chain_fits.ensures ∙ c.if-not-chain_fits.false,
      sym c.arguments_fit.ensures ∙ c.if-not-arguments_fit.false,
      sym c.storage_fits.ensures ∙ c.if-not-storage_fits.true,
    )

pub returns-then-not-image_fits : goal.returns-then-not-image_fits
unfolding run_areas
returns-then-not-image_fits c =
    rw (
      sym c.chain_fits.ensures ∙ c.if-not-chain_fits.false,
      sym c.arguments_fit.ensures ∙ c.if-not-arguments_fit.false,
      sym c.storage_fits.ensures ∙ c.if-not-storage_fits.false,
      sym c.image_fits.ensures ∙ c.if-not-image_fits.true,
    )

pub returns-then-not-faults_fit : goal.returns-then-not-faults_fit
unfolding run_areas
returns-then-not-faults_fit c =
    rw (
      sym c.chain_fits.ensures ∙ c.if-not-chain_fits.false,
      sym c.arguments_fit.ensures ∙ c.if-not-arguments_fit.false,
      sym c.storage_fits.ensures ∙ c.if-not-storage_fits.false,
      sym c.image_fits.ensures ∙ c.if-not-image_fits.false,
      sym c.faults_fit.ensures ∙ c.if-not-faults_fit.true,
    )

pub returns : goal.returns
unfolding run_areas
returns c =
    rw (
      sym c.chain_fits.ensures ∙ c.if-not-chain_fits.false,
      sym c.arguments_fit.ensures ∙ c.if-not-arguments_fit.false,
      sym c.storage_fits.ensures ∙ c.if-not-storage_fits.false,
      sym c.image_fits.ensures ∙ c.if-not-image_fits.false,
      sym c.faults_fit.ensures ∙ c.if-not-faults_fit.false,
      c.limit_fits.ensures,
    )
