-- `trial::run` meets its contract: question 1, and then what `begin` comes to. Assumes nothing.
use mathlib.Core.Path.{sym, ◌∙◌}
use Rattle.trial.proofs.Calls.{short_chain, low_chain, run_refused, run_fits}
use native.Mathlib.Omega.{arith}
use Rattle.trial.proofs.run.Goals as goal

pub returns-then-not-run_areas : goal.returns-then-not-run_areas
returns-then-not-run_areas c = record { storage_after = run_refused _ _ _ _ _ _ _ (sym c.run_areas.ensures ∙ c.if-not-run_areas.true); trial_low = tt }

pub begin-requires : goal.begin-requires
begin-requires c =
    let h = sym c.run_areas.ensures ∙ c.if-not-run_areas.false in record { chain_len_bound = (short_chain _ _ _ _ _ _ h, omega arith); low = low_chain }

pub returns : goal.returns
returns c =
    let h = sym c.run_areas.ensures ∙ c.if-not-run_areas.false in record { storage_after = run_fits _ _ _ _ _ _ _ h _ c.begin.ensures.storage_after; trial_low = c.begin.ensures.trial_low }
