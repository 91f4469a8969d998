-- `reading_runs::read_on` meets its contract. Invariant: the reading goes on with the run that the loop has come to, behind the recoveries made, and
-- the areas hold what these left. Measure: the recoveries left. Assumes nothing.
use mathlib.Core.Path.{◌≡◌}
use Prim.Native.Nat.{◌-◌, ◌≤◌}
use lib.ListN.{length}
use Rattle.trial.specs.Run.{RanLow}
use Rattle.reading_cut.specs.Cut.{lent_areas}
use Rattle.reading_runs.proofs.Ons.{Onward}
use Rattle.reading_runs.proofs.read_on.Given as goal

abbrev pub invariant-loop-ran : goal.invariant-loop-ran
invariant-loop-ran l =
    (l.made ≤ l.limit)
    × (length l.storage ≡ length l.initial.storage)
    × (length l.program ≡ length l.initial.program)
    × (length l.restart_arguments ≡ length l.initial.restart_arguments)
    × (length l.list ≡ length l.initial.list)
    × RanLow l.ran
    × Onward l.chain l.arguments l.image l.faults l.x l.limit l.initial.ran (lent_areas l.initial.storage l.initial.program l.initial.restart_arguments l.initial.list) l.made l.ran (lent_areas l.storage l.program l.restart_arguments l.list)

abbrev pub decreases-loop-ran : goal.decreases-loop-ran
decreases-loop-ran l = l.limit - l.made
