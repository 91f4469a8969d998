-- A run of the trial drive: from the chain's first CCW, or from a restart program's.
use Rattle.std.specs.Prelude.{ℕ, Bool, false, List, Option}
use Rattle.base.specs.Choice.{pick, opt}
use Rattle.faults.specs.Faults.{Fault}
use Rattle.abstract_machine.specs.Machine.{Result, ended, run}
use Rattle.channel.specs.declared.Location.{Location}
use Rattle.channel.specs.declared.Csw.{Csw}
use Rattle.channel.specs.Ccw.{Lent, is_tic, fetch}
use Rattle.channel.specs.Csw.{csw_at, end_status, program_check_status}
use Rattle.drive.specs.Drive.{initial}
use Rattle.drive.specs.Step.{State, End, Cut, no_sense, Setting, step}

-- "A run starts at cylinder 0, head 0, at the index, with no mask."
unfoldable pub start : Location → List ℕ → State
start l st = record { at = l; last = l; left = 0; drive = initial; storage = st }

-- "TIC first" is a program check: the first CCW of a run
unfoldable pub tic_first : Lent → Location → Bool
tic_first p l = opt (fetch p l) false is_tic

-- What "limit" shows: the last CSW, the file mask, storage.
pub record Limit : Type 0 where
  pub csw : Csw
  pub mask : Option ℕ
  pub storage : List ℕ

-- "answers 'limit' with its last CSW": that of the last command, behind which the chain went on
unfoldable pub limit_of : State → Limit
limit_of s = record { csw = csw_at s.last end_status 0 s.left; mask = s.drive.mask; storage = s.storage }

-- A run with at most n commands.
unfoldable pub run_from : List Fault → Setting → ℕ → Location → List ℕ → Result Limit End Cut
run_from fs w n l st =
    pick (tic_first w.lent l)
    (ended (record { csw = csw_at l 0 program_check_status 0; sense = no_sense; mask = initial.mask; storage = st }))
    (run (step fs w) limit_of n (start l st))
