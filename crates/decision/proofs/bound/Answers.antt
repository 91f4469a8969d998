-- `decision::bound` meets its contract: by the decision. Assumes nothing.
use mathlib.Core.Path.{sym, ◌∙◌}
use Rattle.decision.proofs.Bounded.{plan_low, overflow_low, restart_in, restart_out, resumed_in, resumed_out, no_restart}
use Rattle.decision.proofs.bound.Goals as goal

pub returns-then-seek_allowed : goal.returns-then-seek_allowed
returns-then-seek_allowed c =
    let yes = sym c.seek_allowed.ensures ∙ c.if-seek_allowed.true in record { value = restart_in _ _ _ _ c.in-Restarts.is yes; decision_low = plan_low c.args.x _ yes (rw c.in-Restarts.is at c.requires) }

pub returns-in-Restarts : goal.returns-in-Restarts
returns-in-Restarts c = record { value = restart_out _ _ _ _ c.in-Restarts.is (sym c.seek_allowed.ensures ∙ c.if-seek_allowed.false); decision_low = tt }

pub returns-then-seek_allowed-2 : goal.returns-then-seek_allowed-2
returns-then-seek_allowed-2 c =
    let yes = sym c.seek_allowed-in-Resumes.ensures ∙ c.if-seek_allowed-2.true in record { value = resumed_in _ _ _ c.in-Resumes.is yes; decision_low = overflow_low c.args.x _ yes (rw c.in-Resumes.is at c.requires) }

pub returns-in-Resumes : goal.returns-in-Resumes
returns-in-Resumes c = record { value = resumed_out _ _ _ c.in-Resumes.is (sym c.seek_allowed-in-Resumes.ensures ∙ c.if-seek_allowed-2.false); decision_low = tt }

pub returns-in_default : goal.returns-in_default
returns-in_default c = record { value = (no_restart c.args.x _ c.in_default.in_default-own.keys3).0; decision_low = (no_restart c.args.x _ c.in_default.in_default-own.keys3).1 }
