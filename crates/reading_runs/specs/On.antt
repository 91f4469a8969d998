-- A reading from its first run on, as the code has it.
use Rattle.std.specs.Prelude.{ℕ, ◌≡◌, List, [], Some, Ok}
use Rattle.faults.specs.Faults.{Fault, faults_at}
use Rattle.address.specs.declared.Extent.{Extent}
use Rattle.address.specs.Model.{last_of}
use Rattle.abstract_machine.specs.Machine.{Result}
use Rattle.abstract_machine.specs.Reading.{Log, reading}
use Rattle.drive.specs.Step as Step
use Rattle.drive.specs.Run.{Limit}
use Rattle.trial.specs.declared.Ran.{Ran}
use Rattle.trial.specs.Run.{ran_of}
use Rattle.recovery.specs.Table.{rows}
use Rattle.demand_three.specs.WholeReading.{Entry, Restarted, Whole, recover_cut, restarted_run, final, given_in}
use Rattle.command.specs.Answer.{setting_with, lent_of}
use Rattle.reading_cut.specs.Cut.{Areas}
use Rattle.reading_runs.specs.declared.Over.{Over}
use Rattle.reading_runs.specs.Conclusion.{leaving, concluded}

-- what a run of the chain is told, on a pack with this last cylinder
abbrev pub told_of : ℕ → (chain arguments image : List ℕ) → Step.Setting
told_of last chain arguments image = setting_with last (lent_of chain arguments [] []) image

-- no recovery made yet, and no restart built
abbrev pub no_log : Log Entry Restarted
no_log = record { made = []; built = [] }

-- a reading from what a run came to, with k recoveries allowed
abbrev pub read_on : List Fault → Step.Setting → Extent → ℕ → Log Entry Restarted → Result Limit Step.End Step.Cut → Whole
read_on fs w x k g r = reading (restarted_run fs w) (recover_cut (given_in w rows x)) final k g r

-- What the code makes of the first run's result, with n recoveries allowed: its answer and the areas behind it are the definitions'.
abbrev pub ReadsOn : (chain arguments image faults : List ℕ) → Extent → ℕ → Ran → Areas → Over → Areas → Type 0
ReadsOn chain arguments image faults x n first z o y =
    (fs : List Fault) → faults_at faults 0 ≡ Some fs
    → leaving (Ok o) y.storage y.program y.restart_arguments y.list
    ≡ concluded (read_on fs (told_of (last_of x.model) chain arguments image) x n no_log (ran_of first z.storage)) z.program z.restart_arguments z.list
