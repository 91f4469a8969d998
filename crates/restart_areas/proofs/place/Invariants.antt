-- `restart_areas::place` meets its contract. Invariant: what is left to be placed makes the same area. Assumes nothing.
use Prim.Native.Nat.{◌+◌}
use mathlib.Core.Path.{◌≡◌}
use lib.ListN.{drop}
use Rattle.restart_areas.specs.Placed.{placed}
use Rattle.restart_areas.proofs.place.Given as goal

abbrev pub invariant-loop-i : goal.invariant-loop-i
invariant-loop-i l = placed l.area (l.at + l.i) (drop l.i l.bytes) ≡ placed l.initial.area l.at l.bytes
