-- A run as the code has it: the definitions' results with storage apart.
use Rattle.std.specs.Prelude.{ℕ, ◌≡◌, Bool, List, Some}
use Rattle.faults.specs.Faults.{Fault, faults_at}
use Rattle.abstract_machine.specs.Machine as Machine
use Rattle.abstract_machine.specs.Machine.{Result, ended, cut, limit}
use Rattle.channel.specs.declared.Location.{Location}
use Rattle.channel.specs.Ccw.{Lent}
use Rattle.drive.specs.Step as Step
use Rattle.drive.specs.Run.{Limit, limit_of, tic_first, run_from}
use Rattle.command.specs.declared.State.{State}
use Rattle.location.specs.Low.{CswLow}
use Rattle.command.specs.Answer.{state_of, end_of, cut_of, setting_with, CutLow, lent_of}
use Rattle.trial.specs.declared.Ran.{Ran}
use Rattle.trial.specs.declared.Ran.TheVariants.{Ended, Cut, Limited}

-- what a run comes to, with storage behind it
abbrev pub ran_of : Ran → List ℕ → Result Limit Step.End Step.Cut
ran_of (Ended e) st = ended (end_of e st)
ran_of (Cut k) st = cut (cut_of k st)
ran_of (Limited m) st = limit (record { csw = m.csw; mask = m.mask; storage = st })

-- what a run shows fits its bytes
abbrev pub RanLow : Ran → Type 0
RanLow (Ended e) = CswLow e.csw
RanLow (Cut k) = CutLow k
RanLow (Limited m) = CswLow m.csw

-- whether a run begins with a TIC: its code sees the chain and the restart program alone
abbrev pub TicsFirst : (chain program : List ℕ) → Location → Bool → Type 0
TicsFirst chain program l b = (p : Lent) → p.chain ≡ chain → p.program ≡ program → b ≡ tic_first p l

-- at most n commands from a state and storage on, on a pack with this last cylinder: what they come to, and storage behind them
abbrev pub RunsOn : ℕ → (chain arguments program restart_arguments image faults : List ℕ) → ℕ → State → List ℕ → Ran → List ℕ → Type 0
RunsOn last chain arguments program restart_arguments image faults n s st r after =
    (fs : List Fault) → faults_at faults 0 ≡ Some fs
    → Machine.run (Step.step fs (setting_with last (lent_of chain arguments program restart_arguments) image)) limit_of n (state_of s st) ≡ ran_of r after

-- the whole run, from a place and storage
abbrev pub Runs : ℕ → (chain arguments program restart_arguments image faults : List ℕ) → ℕ → Location → List ℕ → Ran → List ℕ → Type 0
Runs last chain arguments program restart_arguments image faults n l st r after =
    (fs : List Fault) → faults_at faults 0 ≡ Some fs
    → run_from fs (setting_with last (lent_of chain arguments program restart_arguments) image) n l st ≡ ran_of r after
