-- `heads::read_on` meets its contract. Invariant: what is read from here on is what is read from the first drive on, with turns enough for the
-- heads left. Measure: the heads left. Assumes nothing.
use Prim.Native.Nat.{ℕ, suc, ◌+◌, ◌-◌, ◌≤◌}
use mathlib.Core.Path.{◌≡◌}
use Rattle.pack.specs.Pack.{pack_of}
use Rattle.drive.specs.Step as Step
use Rattle.position.specs.Standing.{drive_of, Standing}
use Rattle.heads.proofs.read_on.Given as goal

abbrev pub invariant-loop-e : goal.invariant-loop-e
invariant-loop-e l =
    (m : ℕ)
    × (Step.read_from (pack_of l.image) (suc m) (drive_of l.e) ≡ Step.read_from (pack_of l.image) 19 (drive_of l.initial.e))
    × (18 ≤ m + l.e.at.head)
    × Standing l.image l.e

abbrev pub decreases-loop-e : goal.decreases-loop-e
decreases-loop-e l = 18 - l.e.at.head
