-- `faults::find_fault` meets its contract. Invariant: in a list that decodes, the fault is to be found from here on as from the start.
-- Measure: the bytes left. Assumes nothing.
use Rattle.std.specs.Prelude.{Some}
use Prim.Native.Nat.{◌-◌}
use mathlib.Core.Path.{◌≡◌}
use mathlib.Core.List.{List}
use lib.ListN.{length}
use Rattle.faults.specs.Faults.{Fault, faults_at, naming}
use Rattle.faults.proofs.find_fault.Given as goal

abbrev pub invariant-loop-l : goal.invariant-loop-l
invariant-loop-l l =
    (fs : List Fault) → faults_at l.faults l.at ≡ Some fs → (gs : List Fault) × (faults_at l.faults l.here ≡ Some gs) × (naming fs l.a l.r ≡ naming gs l.a l.r)

abbrev pub decreases-loop-l : goal.decreases-loop-l
decreases-loop-l l = length l.faults - l.here
