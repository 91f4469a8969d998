-- What a decision means: the answer of recovery, and the areas behind it.
use Rattle.std.specs.Prelude.{ℕ, ◌<◌, ◌≡◌, List, [], length, Option}
use Rattle.base.specs.Choice.{pick}
use Rattle.address.specs.declared.Address.{Address}
use Rattle.address.specs.declared.Extent.{Extent}
use Rattle.address.specs.Model.{last_of}
use Rattle.channel.specs.Fetch.{InBytes}
use Rattle.restart.specs.declared.ReadCount.{ReadCount}
use Rattle.restart.specs.Restart.{ccw_bytes, program_of, search_program, overflow_program, restart_arguments_of, search_arguments}
use Rattle.restart_areas.specs.Placed.{TicLow}
use Rattle.recovery.specs.Table.{Row}
use Rattle.recovery.specs.Report.{Report}
use Rattle.recovery.specs.Recovery as Recovery
use Rattle.recovery.specs.Recovery.{Given}
use Rattle.report.specs.declared.Told.{Told}
use Rattle.report.specs.Told.{Tells}
use Rattle.correction.specs.Retraced.{mended}
use Rattle.recovered.specs.declared.Kind.{Kind}
use Rattle.recovered.specs.declared.Kind.TheVariants.{Five, FiveA, Eight, Nine, Ten, TenA, Eleven}
use Rattle.recovered.specs.declared.Recovered.TheVariants.{ActionTwo, Restart}
use Rattle.recovered.specs.Applied.{Applied, with, applied, given_of}
use Rattle.recovered.specs.Allowed.{allowed}
use Rattle.decision.specs.declared.Orientation.{Orientation}
use Rattle.decision.specs.declared.Orientation.TheVariants.{Search, Home}
use Rattle.decision.specs.declared.RestartPlan.{RestartPlan}
use Rattle.decision.specs.declared.OverflowPlan.{OverflowPlan}
use Rattle.decision.specs.declared.Decision.{Decision}
use Rattle.decision.specs.declared.Decision.TheVariants.{Answers, Corrects, Restarts, Resumes}

-- ---- the restart areas of a plan

-- "search ID", and for 5A "a read count"; 8 to 11 begin at the home address
abbrev pub orientation_of : Kind → ReadCount → Orientation
orientation_of Five counts = Search counts
orientation_of FiveA counts = Search counts
orientation_of Eight counts = Home
orientation_of Nine counts = Home
orientation_of Ten counts = Home
orientation_of TenA counts = Home
orientation_of Eleven counts = Home

-- the program, by how it comes to its record
unfoldable pub program_by : Orientation → Option ℕ → ℕ → List ℕ
program_by (Search counts) m to = search_program m counts to
program_by Home m to = program_of m (ccw_bytes 0x1a 0 0x50 5) to

-- the arguments likewise
unfoldable pub arguments_by : Orientation → Address → Option ℕ → (sector number : ℕ) → List ℕ
arguments_by (Search counts) a m sector number = search_arguments a m sector number
arguments_by Home a m sector number = restart_arguments_of a m 0 []

-- the program of a plan
abbrev pub program_for : RestartPlan → List ℕ
program_for q = program_by (orientation_of q.kind q.counts) q.mask q.to

-- its arguments
abbrev pub arguments_for : RestartPlan → List ℕ
arguments_for q = arguments_by (orientation_of q.kind q.counts) q.track q.mask q.sector q.number

-- ---- a decision

-- carried out: its answer, and storage and the restart areas behind it
unfoldable pub done : Decision → (st p a : List ℕ) → Applied
done (Answers r) st p a = with r st p a
done (Corrects r c) st p a = with r (mended c st) p a
done (Restarts q c) st p a = with (Restart q.kind) (mended c st) (program_for q) (arguments_for q)
done (Resumes q) st p a = with (Restart q.kind) st (overflow_program q.mask q.first q.tic) (restart_arguments_of q.track q.mask 0 [])

-- "a restart whose seek lies off the pack or outside the extent is not built: the answer is action 2, storage untouched."
unfoldable pub bounded : Extent → Decision → Decision
bounded x (Answers r) = Answers r
bounded x (Corrects r c) = Corrects r c
bounded x (Restarts q c) = pick (allowed x q.track) (Restarts q c) (Answers ActionTwo)
bounded x (Resumes q) = pick (allowed x q.track) (Resumes q) (Answers ActionTwo)

-- A decision means an answer of recovery: in an extent, with storage and the restart areas as they were.
abbrev pub Means : Extent → Decision → (st p a : List ℕ) → Recovery.Recovery → Type 0
Means x d st p a q = done (bounded x d) st p a ≡ applied q st p a

-- What f makes of every report that tells this, in every extent, and of every storage of this length.
abbrev pub Decides : (Given → Report → List ℕ → Recovery.Recovery) → (chain : List ℕ) → ℕ → Told → Decision → Type 0
Decides f chain size t d =
    (rows : List Row) (x : Extent) (r : Report) (st p a : List ℕ) → Tells (last_of x.model) r t → length st ≡ size
    → Means x d st p a (f (given_of rows chain x) r st)

-- ---- what fits its bytes

-- the addresses that a restart goes on with, and the count of restart CCW 1
abbrev pub GoesLow : Decision → Type 0
GoesLow (Answers r) = Unit {0}
GoesLow (Corrects r c) = Unit {0}
GoesLow (Restarts q c) = q.to < 0x10000
GoesLow (Resumes q) = InBytes q.first × TicLow q.tic

-- a plan's numbers
pub record PlanLow (q : RestartPlan) : Type 0 where
  pub to_low : q.to < 0x10000
  pub cylinder_low : q.track.cylinder < 0x10000
  pub head_low : q.track.head < 0x10000

-- the same inside an overflow record
pub record OverflowLow (q : OverflowPlan) : Type 0 where
  pub first_low : InBytes q.first
  pub tic_low : TicLow q.tic
  pub cylinder_low : q.track.cylinder < 0x10000
  pub head_low : q.track.head < 0x10000

-- those of a decision
abbrev pub DecisionLow : Decision → Type 0
DecisionLow (Answers r) = Unit {0}
DecisionLow (Corrects r c) = Unit {0}
DecisionLow (Restarts q c) = PlanLow q
DecisionLow (Resumes q) = OverflowLow q
