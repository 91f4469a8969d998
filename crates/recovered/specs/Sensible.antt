-- What the displacements and the sector of a data check's sense bytes come to.
use Rattle.std.specs.Prelude.{ℕ, ◌≤◌, ◌≡◌, Bool, List}
use Rattle.recovery.specs.Recovery as Recovery
use Rattle.report.specs.declared.Sense.{Sense}
use Rattle.report.specs.Told.{SenseTells}

-- the test of all sense bytes that tell this
abbrev pub Sensible : Sense → Bool → Type 0
Sensible s b = (sense : List ℕ) → SenseTells sense s → b ≡ Recovery.sensible sense

-- the displacements are in their bounds
abbrev pub InBounds : Sense → Type 0
InBounds s = (s.restart.0 ≤ 13038) × (s.error.0 ≤ s.restart.0)
