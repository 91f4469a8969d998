-- What a report tells recovery, as the code has it: by value.
use Rattle.std.specs.Prelude.{ℕ, ◌+◌, ◌<◌, ◌≡◌, List, length, get_or, Option, Some, None}
use Rattle.base.specs.Bytes.{part}
use Rattle.address.specs.declared.Address.{Address}
use Rattle.location.specs.Low.{CswLow}
use Rattle.recovery.specs.Report.{Report}
use Rattle.recovery.specs.Recovery.{user_track, reached_head, cut_track, restart_displacement, error_displacement}
use Rattle.report.specs.declared.Sense.{Sense}
use Rattle.report.specs.declared.Told.{Told}
use Rattle.report.specs.Reported.{seek_of}

-- ---- the user's track

-- its numbers fit their bytes
abbrev pub UserLow : Option Address → Type 0
UserLow None = Unit {0}
UserLow (Some a) = (a.cylinder < 0x10000) × (a.head < 0x10000)

-- of the six bytes of a report from a place on, on a pack with this last cylinder
abbrev pub UserAt : (last : ℕ) → List ℕ → ℕ → Option Address → Type 0
UserAt last report at user = user ≡ user_track last (Some (part report at (at + 6)))

-- of a report's seek argument, if it has one
abbrev pub UserOf : (last : ℕ) → List ℕ → Option ℕ → Option Address → Type 0
UserOf last report seek user = user ≡ user_track last (seek_of report seek)

-- ---- the whole

-- the 24 sense bytes tell this
pub record SenseTells (s : List ℕ) (t : Sense) : Type 0 where
  pub full : length s ≡ 24
  pub byte0 : get_or s 0 0 ≡ t.byte0
  pub byte1 : get_or s 1 0 ≡ t.byte1
  pub byte2 : get_or s 2 0 ≡ t.byte2
  pub byte3 : get_or s 3 0 ≡ t.byte3
  pub head : reached_head s ≡ t.head
  pub format : get_or s 7 0 ≡ t.format
  pub track : cut_track s ≡ t.track
  pub number : get_or s 12 0 ≡ t.number
  pub sector : get_or s 13 0 ≡ t.sector
  pub restart : restart_displacement s ≡ t.restart.0
  pub error : error_displacement s ≡ t.error.0
  pub pattern0 : get_or s 20 0 ≡ t.pattern0
  pub pattern1 : get_or s 21 0 ≡ t.pattern1
  pub pattern2 : get_or s 22 0 ≡ t.pattern2

-- a report tells this of a read of a pack with this last cylinder
pub record Tells (last : ℕ) (r : Report) (t : Told) : Type 0 where
  pub sense : SenseTells r.sense t.sense
  pub csw : r.csw ≡ t.csw
  pub first : r.first ≡ t.first
  pub mask : r.mask ≡ t.mask
  pub user : user_track last r.seek ≡ t.user
  pub tries : r.tries ≡ t.tries

-- its CSW fits its bytes, and so does the user's track, if there is one
pub record ToldLow (t : Told) : Type 0 where
  pub csw_low : CswLow t.csw
  pub user_low : UserLow t.user
