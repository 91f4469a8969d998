-- The code's report as that of the definitions, and what the reading of a report ensures.
use Rattle.std.specs.Prelude.{ℕ, ◌+◌, ◌-◌, ◌<◌, ◌≤◌, ◌≡◌, List, eqb, length, Option, Some, None, Result, Ok, Err}
use Rattle.base.specs.Choice.{pick, opt}
use Rattle.base.specs.Bytes.{part}
use Rattle.fields.specs.Fields.{Field, fields_at}
use Rattle.fields.specs.declared.Field as Placed
use Rattle.fields.specs.TaggedAt.{wanted_at}
use Rattle.recovery.specs.Report as Report
use Rattle.report.specs.declared.Report as Code
use Rattle.report.specs.declared.Report.{Report}
use Rattle.questions.specs.declared.Question.{Question}

-- the field of one tag and length at a place, if it stands there
unfoldable pub sized_at : List ℕ → ℕ → ℕ → ℕ → Option Placed.Field
sized_at s at tag n = opt (wanted_at s at tag) None (λ f. pick (eqb (f.next - f.start) n) (Some f) None)

-- ---- what the code's report stands for, in the report's bytes

-- "14 user's seek argument (6)", by its place
abbrev pub seek_of : List ℕ → Option ℕ → Option (List ℕ)
seek_of s None = None
seek_of s (Some a) = Some (part s a (a + 6))

-- the code's report with the sense bytes, which stand in the first field: "10 sense (24)"
abbrev pub report_of : List ℕ → Code.Report → Report.Report
report_of s r = record { sense = part s 3 27; csw = r.csw; first = r.first; mask = r.mask; seek = seek_of s r.seek; tries = r.tries }

-- the report, if it is well formed
abbrev pub reported_of : List ℕ → Result Report Question → Option Report.Report
reported_of s (Ok r) = Some (report_of s r)
reported_of s (Err q) = None

-- ---- what is ensured

-- what the fields from a place on make of a report so far
abbrev pub Reads : (Report.Report → List Field → Option Report.Report) → List ℕ → ℕ → Code.Report → Result Report Question → Type 0
Reads step s at r out = reported_of s out ≡ opt (fields_at s at) None (step (report_of s r))

-- The six bytes of a seek argument are there.
abbrev pub SeekInside : List ℕ → Option ℕ → Type 0
SeekInside s None = Unit
SeekInside s (Some a) = a + 6 ≤ length s

-- The first three fields are there, and each number is one of its bytes.
pub record Bounds (s : List ℕ) (r : Code.Report) : Type 0 where
  pub long : 43 ≤ length s
  pub address : r.csw.address < 16777216
  pub count : r.csw.count < 65536
  pub first : r.first < 65536
  pub seek : SeekInside s r.seek

-- A well-formed report has these bounds; any other is refused by question 4: "Is the report well formed?"
abbrev pub Bounded : List ℕ → Result Report Question → Type 0
Bounded s (Ok r) = Bounds s r
Bounded s (Err q) = q ≡ Question.Report
