-- What recovery answers, as the code has it: storage and the restart areas stand apart from the answer.
use Rattle.std.specs.Prelude.{ℕ, List}
use Rattle.address.specs.declared.Extent.{Extent}
use Rattle.address.specs.Model.{last_of}
use Rattle.location.specs.Low.{CswLow}
use Rattle.recovery.specs.Table.{Row}
use Rattle.recovery.specs.Recovery as Recovery
use Rattle.recovery.specs.Recovery.{Given}
use Rattle.recovered.specs.declared.Kind.{Kind}
use Rattle.recovered.specs.declared.Kind.TheVariants.{Five, FiveA, Eight, Nine, Ten, TenA, Eleven}
use Rattle.recovered.specs.declared.Recovered.{Recovered}
use Rattle.recovered.specs.declared.Recovered.TheVariants.{Refused, ActionOne, ActionTwo, Repeat, CorrectedOnly, Finished, Restart}

-- the definitions' restarts as the code's
abbrev pub kind_of : Recovery.Kind → Kind
kind_of Recovery.five = Five
kind_of Recovery.five_a = FiveA
kind_of Recovery.eight = Eight
kind_of Recovery.nine = Nine
kind_of Recovery.ten = Ten
kind_of Recovery.ten_a = TenA
kind_of Recovery.eleven = Eleven

-- the action of a restart: its number, and 16 more for an A
abbrev pub action_number : Kind → ℕ
action_number Five = 0x05
action_number FiveA = 0x15
action_number Eight = 0x08
action_number Nine = 0x09
action_number Ten = 0x0a
action_number TenA = 0x1a
action_number Eleven = 0x0b

-- An answer, with storage and the two restart areas behind it.
pub record Applied : Type 0 where
  pub answer : Recovered
  pub storage : List ℕ
  pub program : List ℕ
  pub restart_arguments : List ℕ

-- the same, from its parts
abbrev pub with : Recovered → (storage program restart_arguments : List ℕ) → Applied
with r st p a = record { answer = r; storage = st; program = p; restart_arguments = a }

-- "Areas not named by an answer keep their bytes."
unfoldable pub applied : Recovery.Recovery → (storage program restart_arguments : List ℕ) → Applied
applied (Recovery.refused q) st p a = with (Refused q) st p a
applied Recovery.action_one st p a = with ActionOne st p a
applied Recovery.action_two st p a = with ActionTwo st p a
applied Recovery.repeats st p a = with Repeat st p a
applied (Recovery.corrected_only s) st p a = with CorrectedOnly s p a
applied (Recovery.finished w s) st p a = with (Finished w) s p a
applied (Recovery.restarts k q b s) st p a = with (Restart (kind_of k)) s q b

-- the CSW that recovery finished a chain with fits its bytes
abbrev pub RecoveredLow : Recovered → Type 0
RecoveredLow (Refused q) = Unit {0}
RecoveredLow ActionOne = Unit {0}
RecoveredLow ActionTwo = Unit {0}
RecoveredLow Repeat = Unit {0}
RecoveredLow CorrectedOnly = Unit {0}
RecoveredLow (Finished w) = CswLow w
RecoveredLow (Restart k) = Unit {0}

-- ---- what the code is told

-- rows, chain and extent, on a pack of the extent's model
abbrev pub given_of : List Row → (chain : List ℕ) → Extent → Given
given_of rows chain x = record { last = last_of x.model; rows = rows; chain = chain; extent = x }
