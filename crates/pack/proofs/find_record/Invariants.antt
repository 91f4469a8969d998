-- `pack::find_record` meets its contract. Invariant: where the bytes decode, the number is to be found from here on as from the start.
-- Measure: the bytes left. Assumes nothing.
use Rattle.std.specs.Prelude.{Some}
use Prim.Native.Nat.{◌-◌}
use mathlib.Core.Path.{◌≡◌}
use lib.ListN.{length}
use Rattle.pack.specs.Pack.{Decoded, decode_at, numbered}
use Rattle.pack.proofs.find_record.Given as goal

abbrev pub invariant-loop-p : goal.invariant-loop-p
invariant-loop-p l =
    (d : Decoded) → decode_at l.image l.at ≡ Some d → (e : Decoded) × (decode_at l.image l.here ≡ Some e) × (numbered d.records l.r ≡ numbered e.records l.r)

abbrev pub decreases-loop-p : goal.decreases-loop-p
decreases-loop-p l = length l.image - l.here
