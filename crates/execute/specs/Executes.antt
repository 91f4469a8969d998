-- One command of a run, as the code does it: what it comes to.
use Rattle.std.specs.Prelude.{ℕ, ◌≡◌, true, List, length, Some}
use Rattle.faults.specs.Faults.{Fault, faults_at}
use Rattle.channel.specs.declared.Ccw.{Ccw}
use Rattle.channel.specs.declared.Location.{Location}
use Rattle.channel.specs.Ccw.{Lent}
use Rattle.channel.specs.Fetch.{InBytes, Inside}
use Rattle.drive.specs.declared.Command.{Command}
use Rattle.drive.specs.declared.Command.TheVariants.{NoOperation, Seek, SetMask, SetSector, SearchId, ReadHome, ReadRecord, SearchIdMultitrack, ReadMultitrack, Unlisted}
use Rattle.drive.specs.Drive as Abstract
use Rattle.drive.specs.Step as Step
use Rattle.command.specs.declared.State.{State}
use Rattle.command.specs.declared.Answer.{Answer}
use Rattle.command.specs.Answer.{state_of, answer_of, setting_with, lent_of}
use Rattle.heads.specs.declared.Reached.{Reached}
use Rattle.heads.specs.Reached.{reached_of}

-- One command, from a state and storage, on a pack with this last cylinder: what it comes to, and storage behind it.
abbrev pub Steps : ℕ → (chain arguments program restart_arguments image faults : List ℕ) → State → List ℕ → Answer → List ℕ → Type 0
Steps last chain arguments program restart_arguments image faults s st r after =
    (fs : List Fault) → faults_at faults 0 ≡ Some fs
    → Step.step fs (setting_with last (lent_of chain arguments program restart_arguments) image) (state_of s st) ≡ answer_of r after

-- ---- the CCW c at l, once it is fetched

-- what it comes to, on the drive d and with storage st, and storage behind it
abbrev pub Executes : ℕ → (chain arguments program restart_arguments image faults : List ℕ) → Location → Ccw → Abstract.Drive → List ℕ → Answer → List ℕ → Type 0
Executes last chain arguments program restart_arguments image faults l c d st r after =
    (fs : List Fault) → faults_at faults 0 ≡ Some fs
    → Step.carry fs st (Step.execute (setting_with last (lent_of chain arguments program restart_arguments) image) l c d st) ≡ answer_of r after

-- it stands in its area, and its fields fit their bytes
pub record InArea (chain program : List ℕ) (l : Location) (c : Ccw) : Type 0 where
  pub inside : Inside chain program l
  pub bytes : InBytes c

-- as the command k it makes no program check
abbrev pub Unchecked : (chain arguments program restart_arguments st : List ℕ) → Location → Ccw → Command → Type 0
Unchecked chain arguments program restart_arguments st l c k = Step.sound (lent_of chain arguments program restart_arguments) l (length st) c k ≡ true

-- what it then comes to
abbrev pub Performs : ℕ → (chain arguments program restart_arguments image faults : List ℕ) → Location → Ccw → Command → Abstract.Drive → List ℕ → Answer → List ℕ → Type 0
Performs last chain arguments program restart_arguments image faults l c k d st r after =
    (fs : List Fault) → faults_at faults 0 ≡ Some fs
    → Step.carry fs st (Step.perform (setting_with last (lent_of chain arguments program restart_arguments) image) l c d st k) ≡ answer_of r after

-- ---- multitrack commands

-- the single-track form of a command
unfoldable pub single_track : Command → Command
single_track NoOperation = NoOperation
single_track Seek = Seek
single_track SetMask = SetMask
single_track SetSector = SetSector
single_track SearchId = SearchId
single_track ReadHome = ReadHome
single_track (ReadRecord k) = ReadRecord k
single_track SearchIdMultitrack = SearchId
single_track (ReadMultitrack k) = ReadRecord k
single_track Unlisted = Unlisted

-- where the command k is done, from the drive d: with a drive as its single-track form, or a unit check ends it
abbrev pub ReachesFor : (image : List ℕ) → Ccw → Command → Abstract.Drive → Reached → Type 0
ReachesFor image c k d r =
    (last : ℕ) (p : Lent) (l : Location) (st : List ℕ) → Step.perform (setting_with last p image) l c d st k
    ≡ Step.on_reached (reached_of r) (Step.refuse l c d st) (λ e. Step.perform (setting_with last p image) l c e st (single_track k))
