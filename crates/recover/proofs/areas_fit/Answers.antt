-- `recover::areas_fit` meets its contract: area by area. Assumes nothing.
use mathlib.Core.Path.{sym, ◌∙◌}
use Rattle.recover.proofs.Calls.{chain_not, storage_not, restart_not, extent_left}
use Rattle.recover.proofs.areas_fit.Goals as goal

pub returns-then-not-chain_fits : goal.returns-then-not-chain_fits
returns-then-not-chain_fits c = chain_not _ _ _ _ _ (sym c.chain_fits.ensures ∙ c.if-not-chain_fits.true)

pub returns-then-not-storage_fits : goal.returns-then-not-storage_fits
returns-then-not-storage_fits c = storage_not _ _ _ _ _ (sym c.chain_fits.ensures ∙ c.if-not-chain_fits.false) (sym c.storage_fits.ensures ∙ c.if-not-storage_fits.true)

pub returns-then-not-restart_areas : goal.returns-then-not-restart_areas
returns-then-not-restart_areas c =
    let one = sym c.chain_fits.ensures ∙ c.if-not-chain_fits.false in
    let two = sym c.storage_fits.ensures ∙ c.if-not-storage_fits.false in
    restart_not _ _ _ _ _ one two (sym c.restart_areas.ensures ∙ c.if-not-restart_areas.true)

pub returns : goal.returns
returns c =
    let one = sym c.chain_fits.ensures ∙ c.if-not-chain_fits.false in
    let two = sym c.storage_fits.ensures ∙ c.if-not-storage_fits.false in
    extent_left _ _ _ _ _ one two (sym c.restart_areas.ensures ∙ c.if-not-restart_areas.false)
