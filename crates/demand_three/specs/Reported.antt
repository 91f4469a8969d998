-- The report that a cut makes, as document 01's tagged fields, and that it is well formed.
use Rattle.std.specs.Prelude.{ℕ, ◌≡◌, List, [], ◌∷◌, ◌++◌, length, Option, Some, None}
use Rattle.base.specs.Bytes.{two}
use Rattle.abstract_machine.specs.Machine.{cut}
use Rattle.channel.specs.declared.Location.{Location}
use Rattle.channel.specs.Ccw.{address_of}
use Rattle.channel.specs.Csw.{csw_bytes}
use Rattle.drive.specs.Step.{Cut, cut_sense, Setting}
use Rattle.drive.specs.Run.{run_from}
use Rattle.recovery.specs.Report.{report_from}
use Rattle.demand_three.specs.WholeReading.{report_of}
use Rattle.demand_three.specs.Demand.{Lending, Begins}

-- "One-byte tag, two-byte length of what follows, contents."
unfoldable pub tagged : ℕ → List ℕ → List ℕ
tagged tag s = tag ∷ two (length s) ++ s

-- "13 file mask .., absent if none was set"
unfoldable pub mask_field : Option ℕ → List ℕ
mask_field None = []
mask_field (Some m) = tagged 0x13 (m ∷ [])

-- "Report, ascending tags: 10 sense (24), 11 CSW (8, first 00), 12 address of the read's first CCW (2)"
unfoldable pub report_bytes : Cut → List ℕ
report_bytes k = tagged 0x10 (cut_sense k) ++ tagged 0x11 (csw_bytes k.csw) ++ tagged 0x12 (two (address_of k.first)) ++ mask_field k.mask

-- Of each cut of a reading that begins: question 4 is answered with yes, and what is read back is what the cut tells. Every run of the reading g is
-- of this form, the first one and each restarted one (`restarted_run`): "all meet the whole fault list".
abbrev pub ReportsWellFormed : Type 0
ReportsWellFormed =
    (g : Lending) → Begins g → (w : Setting) (n : ℕ) (l : Location) (st : List ℕ) (k : Cut)
    → run_from g.faults w n l st ≡ cut k → report_from (report_bytes k) ≡ Some (report_of k)
