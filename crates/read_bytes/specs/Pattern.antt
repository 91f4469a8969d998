-- The bytes of a read with a faulted data area.
use Rattle.std.specs.Prelude.{ℕ, ◌≡◌, List}
use Rattle.faults.specs.Faults.{Fault}
use Rattle.drive.specs.Step.{arriving}

-- what the bytes become under every fault with this displacement and pattern
abbrev pub Arrives : List ℕ → ℕ → List ℕ → List ℕ → Type 0
Arrives bs displacement pattern cs = (f : Fault) → f.displacement ≡ displacement → f.pattern ≡ pattern → cs ≡ arriving bs f
