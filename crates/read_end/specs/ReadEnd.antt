-- What a read comes to, by how its data chain ended. Where its bytes went is told apart, by any places ps.
use Rattle.std.specs.Prelude.{ℕ, ◌<◌, ◌≤◌, ◌≡◌, List, length, Option, Result, Ok, Err}
use Rattle.faults.specs.declared.Listed.{Listed}
use Rattle.faults.specs.FaultAt.{fault_from}
use Rattle.pack.specs.Pack.{Record}
use Rattle.pack.specs.declared.Place.{Place}
use Rattle.channel.specs.declared.Location.{Location}
use Rattle.channel.specs.Store.{store}
use Rattle.channel.specs.Walk.{Walk, walked, checked}
use Rattle.transfer.specs.declared.Moved.{Moved}
use Rattle.drive.specs.Drive as Abstract
use Rattle.drive.specs.Step as Step
use Rattle.command.specs.declared.Answer.{Answer}
use Rattle.location.specs.Low.{Low}
use Rattle.command.specs.Answer.{answer_of}

-- the walk that ended so
abbrev pub walk_of : List (Option ℕ) → Result Moved Location → Walk
walk_of ps (Ok m) = walked ps m.at m.ccw m.left m.over
walk_of ps (Err l) = checked ps l

-- a CSW can show the CCW that the read ended with, and its count left
abbrev pub LowMoved : Result Moved Location → Type 0
LowMoved (Ok m) = Low m.at × (m.left < 0x10000)
LowMoved (Err l) = Low l

-- the track and number of a record, as its count area has them
pub record PlaceLow (p : Place) : Type 0 where
  pub cylinder : p.at.cylinder < 0x10000
  pub head : p.at.head < 0x10000
  pub number : p.r < 0x100

-- a read of n bytes from the CCW at `first` on, in which a fault lies
pub record FaultedLow (first : Location) (p : Place) (f : Listed) (n : ℕ) : Type 0 where
  pub place : PlaceLow p
  pub few : n ≤ 16384
  pub inside : f.displacement.0 ≤ n
  pub first_low : Low first

-- a read without fault, with the drive behind it
abbrev pub Settles : Abstract.Drive → Result Moved Location → Answer → Type 0
Settles d m r = (ps : List (Option ℕ)) (bs st : List ℕ) → Step.settled bs d st (walk_of ps m) ≡ answer_of r (store ps bs st)

-- a read of a data area of length 0
abbrev pub Excepts : Abstract.Drive → Result Moved Location → Answer → Type 0
Excepts d m r = (ps : List (Option ℕ)) (bs st : List ℕ) → Step.excepted bs d st (walk_of ps m) ≡ answer_of r (store ps bs st)

-- a read of n bytes that ends with the faulted data area of the record at a place
abbrev pub CutsOff : Location → Place → Listed → ℕ → Abstract.Drive → Result Moved Location → Answer → Type 0
CutsOff first p f n d m r =
    (ps : List (Option ℕ)) (x : Record) (bs st : List ℕ) → x.at ≡ p.at → x.r ≡ p.r → length bs ≡ n
    → Step.faulted first x (fault_from f) bs d st (walk_of ps m) ≡ answer_of r (store ps (Step.arriving bs (fault_from f)) st)
