-- Read commands, as the code does them: what holds before a read, and what it comes to.
use Rattle.std.specs.Prelude.{ℕ, ◌-◌, ◌≤◌, ◌≡◌, true, List, length, Option, Some, None}
use Rattle.pack.specs.declared.Place.{Place}
use Rattle.pack.specs.Pack.{Record, pack_of}
use Rattle.pack.specs.Places.{record_at, Within}
use Rattle.image.specs.Image.{well_formed}
use Rattle.faults.specs.declared.Listed.{Listed}
use Rattle.faults.specs.Faults.{Fault, faults_at, naming, sound_faults}
use Rattle.faults.specs.FaultAt.{fault_from, FaultFound}
use Rattle.channel.specs.declared.Ccw.{Ccw}
use Rattle.channel.specs.declared.Location.{Location}
use Rattle.channel.specs.Ccw.{Lent}
use Rattle.channel.specs.Fetch.{InBytes, Inside}
use Rattle.channel.specs.Walk.{Walk, walk, readable}
use Rattle.drive.specs.declared.Read.{Read}
use Rattle.drive.specs.Drive as Abstract
use Rattle.drive.specs.Step as Step
use Rattle.position.specs.Standing.{Belongs}
use Rattle.command.specs.declared.Answer.{Answer}
use Rattle.command.specs.Answer.{answer_of}

-- The areas that CCWs stand in are short, so that every address fits a CSW.
abbrev pub Short : (chain program : List ℕ) → Type 0
Short chain program = (length chain ≤ 2048) × (length program ≤ 64)

-- well formed, as the image of a pack with some last cylinder: reads need no more
abbrev pub Formed : List ℕ → Type 0
Formed image = (last : ℕ) × (well_formed last image ≡ true)

-- What questions 1, 2 and 3 found.
pub record Begun (chain program image faults : List ℕ) : Type 0 where
  pub short : Short chain program
  pub whole : Formed image
  pub listed : (fs : List Fault) × (faults_at faults 0 ≡ Some fs) × (sound_faults (pack_of image) fs ≡ true)

-- a read may use it
pub record Ready (chain program st : List ℕ) (l : Location) (c : Ccw) : Type 0 where
  pub inside : Inside chain program l
  pub bytes : InBytes c
  pub range : readable (length st) c ≡ true
  pub short : Short chain program

-- ---- reads: they see the chain and the restart program alone

-- what f makes of the walk of n bytes
abbrev pub Ends : (chain program : List ℕ) → Location → Ccw → ℕ → List ℕ → (Walk → Step.Answer) → Answer → List ℕ → Type 0
Ends chain program l c n st f r after =
    (p : Lent) → p.chain ≡ chain → p.program ≡ program → f (walk p (length st) n l c c.count c.address) ≡ answer_of r after

-- what a plan comes to
abbrev pub Carries : (chain program faults : List ℕ) → List ℕ → (Lent → Step.Plan) → Answer → List ℕ → Type 0
Carries chain program faults st plan r after =
    (p : Lent) (fs : List Fault) → p.chain ≡ chain → p.program ≡ program → faults_at faults 0 ≡ Some fs → Step.carry fs st (plan p) ≡ answer_of r after

-- bytes that end with the faulted data area of the record at a place
abbrev pub ReadsFaulted : (chain program : List ℕ) → Location → Ccw → List ℕ → Place → Listed → Abstract.Drive → List ℕ → Answer → List ℕ → Type 0
ReadsFaulted chain program l c bs x f e st r after =
    (y : Record) → y.at ≡ x.at → y.r ≡ x.r → Ends chain program l c (length bs) st (Step.faulted l y (fault_from f) bs e st) r after

-- where a record that the drive takes lies
pub record Lies (image : List ℕ) (x : Place) : Type 0 where
  pub within : Within image x
  pub found : (at : ℕ) × (record_at image at ≡ Some x)
  pub belongs : Belongs image x

-- the fault of the data area that a read takes, if it takes one that has a fault
abbrev pub FaultTaken : List ℕ → Read → Place → Option Listed → Type 0
FaultTaken faults k x (Some f) = (k.datas ≡ true) × FaultFound faults 0 x.at x.r (Some f)
FaultTaken faults k x None = k.datas ≡ true → FaultFound faults 0 x.at x.r None

-- a fault that names the record lies in the n bytes of a read that takes its data
abbrev pub FaultsInside : List ℕ → Read → Place → ℕ → Type 0
FaultsInside faults k x n =
    (fs : List Fault) × (faults_at faults 0 ≡ Some fs) × ((f : Fault) → k.datas ≡ true → naming fs x.at x.r ≡ Some f → f.displacement ≤ n)

-- the plan of a read of a record, with the drive e behind it
abbrev pub plan_of : Location → Ccw → Abstract.Drive → List ℕ → Read → Record → Abstract.Drive → Lent → Step.Plan
plan_of l c d st k y e p = Step.plan_transfer l c d st p (Step.bytes_of k y) (Step.area_of k y) e

-- a read of any record that a place may stand for, and whose bytes are bs
abbrev pub ReadsBytes : (chain program faults : List ℕ) → Location → Ccw → Read → Place → List ℕ → Abstract.Drive → List ℕ → Answer → List ℕ → Type 0
ReadsBytes chain program faults l c k x bs e st r after =
    (y : Record) → y.at ≡ x.at → y.r ≡ x.r → length y.body ≡ x.next - x.body → Step.bytes_of k y ≡ bs
    → Carries chain program faults st (plan_of l c e st k y e) r after

-- the plan of a read of a record
abbrev pub record_plan : Location → Ccw → Abstract.Drive → List ℕ → (image : List ℕ) → Read → Lent → Step.Plan
record_plan l c d st image k p = Step.plan_read l c d st (pack_of image) p k

-- a read of the home address: no fault concerns it
abbrev pub Homes : (chain program : List ℕ) → Location → Ccw → Abstract.Drive → (image : List ℕ) → List ℕ → Answer → List ℕ → Type 0
Homes chain program l c d image st r after =
    (p : Lent) (fs : List Fault) → p.chain ≡ chain → p.program ≡ program → Step.carry fs st (Step.plan_home l c d st (pack_of image) p) ≡ answer_of r after
