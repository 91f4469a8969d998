-- Where 10A goes on behind a step that is File Protected, and that no other restart of its kind asks for the head (document 02, "Head reached, for
-- 10A"): "A chain that had stepped two heads met a mask violation, and the restart went back to the track after the user's seek."
--   MeetsMask       a multitrack command comes to a step that the mask forbids
--   ProtectedEnd    that ends the chain
--   Reports         a report of this end
--   GoesOnBehind    recovery from it seeks the track behind the head reached
--   EightTenStay    actions 8 and 10 are the same whatever sense byte 6 holds
use Rattle.std.specs.Prelude.{ℕ, ◌≡◌, true, List, [], set, Some, Ok}
use Rattle.base.specs.Choice.{pick}
use Rattle.address.specs.declared.Address.{Address}
use Rattle.pack.specs.Pack.{Track}
use Rattle.faults.specs.Faults.{Fault}
use Rattle.abstract_machine.specs.Machine.{ends}
use Rattle.channel.specs.declared.Ccw.{Ccw}
use Rattle.channel.specs.declared.Location.TheVariants.{Chain}
use Rattle.channel.specs.Ccw.{resolve}
use Rattle.drive.specs.declared.Read.{Read}
use Rattle.drive.specs.declared.Command.{Command}
use Rattle.drive.specs.declared.Command.TheVariants.{SearchIdMultitrack, ReadMultitrack}
use Rattle.drive.specs.Command.{command_of}
use Rattle.drive.specs.Drive.{Drive}
use Rattle.drive.specs.Step.{State, End, protected_step, check_sense, fails, next_head, search_from, take_from, Setting, step}
use Rattle.restart.specs.Restart.{ccw_bytes, program_of, restart_arguments_of}
use Rattle.recovery.specs.Table.{rows}
use Rattle.recovery.specs.Report.{Report}
use Rattle.recovery.specs.Recovery.{Recovery, action_two, restarts, ten_a, Given, seek_allowed, is_seek, user_track, interrupted, action_eight, action_ten, recover}

-- On the drive d a multitrack command comes to a step that is File Protected; the drive stands on this head then.
pub data MeetsMask (pack : List Track) (d : Drive) (head : ℕ) : Command → Type 0 where
  by_search : search_from pack d ≡ fails (protected_step head) → MeetsMask pack d head SearchIdMultitrack
  by_read : (k : Read) → take_from pack k.just d ≡ fails (protected_step head) → MeetsMask pack d head (ReadMultitrack k)

-- In the state s of a run the CCW at this place of the chain comes next; it meets such a step, which ends the chain with e.
pub record ProtectedEnd (fs : List Fault) (w : Setting) (s : State) (e : End) : Type 0 where
  pub place : ℕ
  pub ccw : Ccw
  pub head : ℕ
  pub comes : resolve w.lent s.last s.at ≡ Ok (Chain place, ccw)
  pub meets : MeetsMask w.pack s.drive head (command_of ccw.command)
  pub ends_it : step fs w s ≡ ends e
  -- the command makes no program check and is not rejected
  pub sensed : e.sense ≡ check_sense (protected_step head)

-- A report of this end: tag 14, the address of a read and the tries are any.
pub record Reports (r : Report) (e : End) : Type 0 where
  pub sense : r.sense ≡ e.sense
  pub csw : r.csw ≡ e.csw
  pub mask : r.mask ≡ e.mask

-- 10A with a seek to the track b, the mask of the drive d and a TIC to a CCW of the chain; "a restart whose seek lies off the pack or outside the
-- extent is not built: the answer is action 2"
unfoldable pub restart_at : Given → Drive → Address → (to : ℕ) → List ℕ → Recovery
restart_at g d b to st =
    pick (seek_allowed g b)
    (restarts ten_a (program_of d.mask (ccw_bytes 0x1a 0 0x50 5) to) (restart_arguments_of b d.mask 0 []) st)
    action_two

-- For every such end, with document 01's error table and a seek argument of the drive's cylinder: the head is the drive's own, the restart seeks the
-- track to which the step would have gone, and its last TIC leads to the command that met the mask.
abbrev pub GoesOnBehind : Type 0
GoesOnBehind =
    (g : Given) (fs : List Fault) (w : Setting) (s : State) (e : End) (r : Report) (a : Address) (st : List ℕ)
    → g.rows ≡ rows → g.chain ≡ w.lent.chain → (p : ProtectedEnd fs w s e) → Reports r e
    → user_track g.last r.seek ≡ Some a → a.cylinder ≡ s.drive.at.cylinder
    → (p.head ≡ s.drive.at.head) × (recover g r st ≡ restart_at g s.drive (next_head s.drive).at p.place st)

-- ---- the other actions

-- the report with another sense byte 6
unfoldable pub with_six : Report → ℕ → Report
with_six r b = record { sense = set r.sense 6 b; csw = r.csw; first = r.first; mask = r.mask; seek = r.seek; tries = r.tries }

-- "Actions 8 and 10 stay.": action 8, and action 10 at an interrupted seek, answer the same with any sense byte 6.
pub record Stay (g : Given) (r : Report) (st : List ℕ) (b : ℕ) : Type 0 where
  pub eight : action_eight g (with_six r b) st ≡ action_eight g r st
  pub ten : (c : Ccw) → interrupted g r st ≡ Some c → is_seek (command_of c.command) ≡ true → action_ten g (with_six r b) st ≡ action_ten g r st

-- of every report
abbrev pub EightTenStay : Type 0
EightTenStay = (g : Given) (r : Report) (st : List ℕ) (b : ℕ) → Stay g r st b
