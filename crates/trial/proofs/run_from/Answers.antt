-- `trial::run_from` meets its contract: a TIC first is a program check, any other run is `run_on` from the start. Assumes nothing.
use native.Mathlib.Omega.{arith}
use mathlib.Core.Path.{refl, sym, ◌∙◌}
use Rattle.position.proofs.Image.{sound}
use Rattle.trial.proofs.Runs.{checked_first, begun_so}
use Rattle.trial.proofs.run_from.Goals as goal

pub returns-then-tic_first : goal.returns-then-tic_first
returns-then-tic_first c = record { runs = checked_first _ _ _ _ _ _ _ _ _ _ _ c.csw_at.ensures.value (sym c.if-tic_first.true ∙ c.tic_first.ensures _ refl refl); ran_low = c.csw_at.ensures.csw_low }

pub initial-requires : goal.initial-requires
initial-requires c = sound _ _ c.requires.begun.whole.1

pub run_on-requires : goal.run_on-requires
run_on-requires c = record { begun = c.requires.begun; standing = c.initial.ensures.standing; state_low = record { last_low = c.requires.low; left_low = omega arith } }

pub returns : goal.returns
returns c = record { runs = begun_so _ _ _ _ _ _ _ _ _ _ c.initial.result c.initial.ensures.value (sym c.if-tic_first.false ∙ c.tic_first.ensures _ refl refl) c.run_on.result _ c.run_on.ensures.runs_on; ran_low = c.run_on.ensures.ran_low }
