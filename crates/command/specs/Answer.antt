-- What a command comes to, as the code has it: the definitions' answers with storage apart.
use Rattle.std.specs.Prelude.{ℕ, ◌+◌, ◌<◌, ◌≡◌, List, [], ◌∷◌}
use Rattle.pack.specs.Pack.{pack_of}
use Rattle.abstract_machine.specs.Machine.{goes, ends, cuts}
use Rattle.channel.specs.declared.Ccw.{Ccw}
use Rattle.channel.specs.declared.Location.{Location}
use Rattle.channel.specs.Ccw.{Lent}
use Rattle.channel.specs.Csw.{csw_at, end_status, unit_check}
use Rattle.location.specs.Low.{Low, CswLow}
use Rattle.drive.specs.Drive as Abstract
use Rattle.drive.specs.Step as Step
use Rattle.position.specs.declared.Drive.{Drive}
use Rattle.position.specs.declared.Examined.{Examined}
use Rattle.position.specs.Standing.{drive_of, Standing, ExaminedStands}
use Rattle.command.specs.declared.Check.{Check}
use Rattle.command.specs.declared.Check.TheVariants.{Rejected, NotFound, Protected, EndOfCylinder}
use Rattle.command.specs.declared.Status.{Status}
use Rattle.command.specs.declared.Status.TheVariants.{Quiet, Refused, ProtectedStep}
use Rattle.command.specs.declared.State.{State}
use Rattle.command.specs.declared.End.{End}
use Rattle.command.specs.declared.Cut.{Cut}
use Rattle.command.specs.declared.Answer.{Answer}
use Rattle.command.specs.declared.Answer.TheVariants.{Goes, Ends, Cuts}

-- the code's unit checks as those of the definitions
abbrev pub check_of : Check → Step.Check
check_of Rejected = Step.rejected
check_of NotFound = Step.not_found
check_of Protected = Step.protected
check_of EndOfCylinder = Step.end_of_cylinder

-- the sense bytes of an end that no faulted data area made
abbrev pub sense_of : Status → List ℕ
sense_of Quiet = Step.no_sense
sense_of (Refused k) = Step.check_sense (check_of k)
sense_of (ProtectedStep head) = Step.check_sense (Step.protected_step head)

-- a state between two commands, with storage st
abbrev pub state_of : State → List ℕ → Step.State
state_of s st = record { at = s.at; last = s.last; left = s.left; drive = drive_of s.drive; storage = st }

-- a chain's end, its status as sense bytes, with storage st
abbrev pub end_of : End → List ℕ → Step.End
end_of e st = record { csw = e.csw; sense = sense_of e.status; mask = e.mask; storage = st }

-- a cut, its displacements as numbers and its pattern as three bytes, with storage st
abbrev pub cut_of : Cut → List ℕ → Step.Cut
cut_of k st = record {
  at = k.at;
  r = k.r;
  restart = k.restart.0;
  error = k.error.0;
  pattern = k.pattern0 ∷ k.pattern1 ∷ k.pattern2 ∷ [];
  over = k.over;
  first = k.first;
  mask = k.mask;
  csw = k.csw;
  storage = st;
}

-- a command's answer, with storage behind it
abbrev pub answer_of : Answer → List ℕ → Step.Answer
answer_of (Goes s) st = goes (state_of s st)
answer_of (Ends e) st = ends (end_of e st)
answer_of (Cuts k) st = cuts (cut_of k st)

-- an answer of the definitions for every storage, which leaves storage as it is
abbrev pub Answers : (List ℕ → Step.Answer) → Answer → Type 0
Answers f r = (st : List ℕ) → f st ≡ answer_of r st

-- a unit check with the sense of a status, as the definitions' refusals have it
abbrev pub Checked : Status → Location → Ccw → Abstract.Drive → Answer → Type 0
Checked s l c d r = Answers (λ st. ends (record { csw = csw_at l (end_status + unit_check) 0 c.count; sense = sense_of s; mask = d.mask; storage = st })) r

-- ---- what is kept from command to command

-- A CSW can show the CCW that was fetched last, and its count left.
pub record StateLow (s : State) : Type 0 where
  pub last_low : Low s.last
  pub left_low : s.left < 0x10000

-- What a cut tells fits the bytes of a report.
pub record CutLow (k : Cut) : Type 0 where
  pub cylinder : k.at.cylinder < 0x10000
  pub head : k.at.head < 0x10000
  pub number : k.r < 0x100
  pub restart_low : k.restart.0 < 0x10000
  pub error_low : k.error.0 < 0x10000
  pub first_low : Low k.first
  pub csw_low : CswLow k.csw

-- The drive stands in the image; what is shown of a state, an end or a cut fits its bytes.
abbrev pub Kept : List ℕ → Answer → Type 0
Kept image (Goes s) = Standing image s.drive × StateLow s
Kept image (Ends e) = CswLow e.csw
Kept image (Cuts k) = CutLow k

-- in every image
abbrev pub KeptAlways : Answer → Type 0
KeptAlways r = (image : List ℕ) → Kept image r

-- in every image in which the drive stands
abbrev pub KeptWith : Drive → Answer → Type 0
KeptWith d r = (image : List ℕ) → Standing image d → Kept image r

-- in every image in which the drive stands behind a search
abbrev pub KeptBehind : Examined → Answer → Type 0
KeptBehind x r = (image : List ℕ) → ExaminedStands image x → Kept image r

-- the areas that a run only reads
abbrev pub lent_of : (chain arguments program restart_arguments : List ℕ) → Lent
lent_of chain arguments program restart_arguments = record { chain = chain; arguments = arguments; program = program; restart_arguments = restart_arguments }

-- what a run is told, in terms of the pack's last cylinder and of the bytes that are lent to it
abbrev pub setting_with : ℕ → Lent → List ℕ → Step.Setting
setting_with last p image = record { last = last; pack = pack_of image; lent = p }
