-- `trial::run_restart` meets its contract: question 1 of all areas, and then what `begin` comes to. Assumes nothing.
use mathlib.Core.Path.{sym, ◌∙◌}
use Rattle.trial.proofs.Calls.{short_chain, short_program, low_restart, restart_refused, program_refused, restart_fits}
use Rattle.trial.proofs.run_restart.Goals as goal

pub returns-then-not-run_areas : goal.returns-then-not-run_areas
returns-then-not-run_areas c = record { storage_after = restart_refused _ _ _ _ _ _ _ _ (sym c.run_areas.ensures ∙ c.if-not-run_areas.true); trial_low = tt }

pub returns-then-not-restart_areas : goal.returns-then-not-restart_areas
returns-then-not-restart_areas c =
    let h = sym c.run_areas.ensures ∙ c.if-not-run_areas.false in record { storage_after = program_refused _ _ _ _ _ _ _ _ h (sym c.restart_areas.ensures ∙ c.if-not-restart_areas.true); trial_low = tt }

pub begin-requires : goal.begin-requires
begin-requires c =
    let h = sym c.run_areas.ensures ∙ c.if-not-run_areas.false in
    let g = sym c.restart_areas.ensures ∙ c.if-not-restart_areas.false in record { chain_len_bound = (short_chain _ _ _ _ _ _ h, short_program _ _ g); low = low_restart }

pub returns : goal.returns
returns c =
    let h = sym c.run_areas.ensures ∙ c.if-not-run_areas.false in
    let g = sym c.restart_areas.ensures ∙ c.if-not-restart_areas.false in record { storage_after = restart_fits _ _ _ _ _ _ _ _ h g _ c.begin.ensures.storage_after; trial_low = c.begin.ensures.trial_low }
