-- Demand 3's exception in document 02's words: "a chain cut on whatever head must end as the uncut one does; only where the uncut one's last command is an
-- 86 or 8E that ends with End of Cylinder, File Protected, or a step to a track that isn't in the image may address and count left be those of the
-- restart's 92."
--   StepCheck     the unit checks by which a step fails
--   LastStep      the uncut run's last command is such a one, behind a faulted read
--   SameButFor    the two ends are the same but for address and count left, and these too unless the last command is such a one
use Rattle.std.specs.Prelude.{ℕ, ◌≡◌, true, ◌⊎◌, [], Ok}
use Rattle.abstract_machine.specs.Machine.{goes, ends}
use Rattle.channel.specs.declared.Ccw.{Ccw}
use Rattle.channel.specs.declared.Location.{Location}
use Rattle.channel.specs.declared.Location.TheVariants.{Restart}
use Rattle.channel.specs.Ccw.{resolve}
use Rattle.channel.specs.Csw.{csw_at}
use Rattle.drive.specs.Step.{State, End, Check, not_found, end_of_cylinder, protected_step, check_sense, step}
use Rattle.restart.specs.Restart.{count_place, is_multitrack_data}
use Rattle.demand_three.specs.Demand.{Lending, setting_of, Begins, Provided, takes_faulted, end_of}

-- "End of Cylinder, File Protected, or a step to a track that isn't in the image"
pub data StepCheck : Check → Type 0 where
  past_the_last_head : StepCheck end_of_cylinder
  by_the_mask : (head : ℕ) → StepCheck (protected_step head)
  to_no_track : StepCheck not_found

-- The uncut run ends with e by the 86 or 8E that comes next in the state `last`, which fails by a step; the command before it reads a faulted data area.
pub record LastStep (g : Lending) (e : End) : Type 0 where
  pub before : State
  pub last : State
  pub place : Location
  pub ccw : Ccw
  pub check : Check
  pub faulted : takes_faulted g before ≡ true
  pub goes_on : step [] (setting_of g) before ≡ goes last
  pub comes : resolve (setting_of g).lent last.last last.at ≡ Ok (place, ccw)
  pub code : is_multitrack_data ccw.command ≡ true
  pub ends_it : step [] (setting_of g) last ≡ ends e
  pub by_step : StepCheck check
  pub sensed : e.sense ≡ check_sense check

-- The end of the reading beside e, that of the uncut run.
pub record SameButFor (g : Lending) (e : End) : Type 0 where
  pub same_storage : (end_of g e).storage ≡ e.storage
  pub same_sense : (end_of g e).sense ≡ e.sense
  pub same_unit : (end_of g e).csw.unit ≡ e.csw.unit
  pub same_channel : (end_of g e).csw.channel ≡ e.csw.channel
  -- address and count left are the same, or those of the restart's 92
  pub same_csw : ((end_of g e).csw ≡ e.csw) ⊎ (LastStep g e × ((end_of g e).csw ≡ csw_at (Restart (count_place e.mask)) e.csw.unit e.csw.channel 8))

-- for every reading that demand 3 speaks of
abbrev pub SameButForTheCount : Type 0
SameButForTheCount = (g : Lending) (e : End) → Begins g → Provided g e → SameButFor g e
