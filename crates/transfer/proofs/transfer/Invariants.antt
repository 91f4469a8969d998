-- `transfer::transfer` meets its contract. Invariant: what is left of the read at the CCW that it has come to leaves what the whole read leaves.
-- Measure: the bytes left; each CCW takes at least one. Assumes nothing.
use Prim.Native.Nat.{◌-◌, ◌≤◌}
use mathlib.Core.Path.{◌≡◌}
use mathlib.Core.Bool.{true}
use lib.ListN.{length, drop}
use Rattle.channel.specs.Ccw.{Lent}
use Rattle.channel.specs.Walk.{readable}
use Rattle.channel.specs.Fetch.{InBytes, Inside}
use Rattle.transfer.proofs.Through.{rest}
use Rattle.transfer.proofs.transfer.Given as goal

abbrev pub invariant-loop-storage : goal.invariant-loop-storage
invariant-loop-storage l =
    (length l.storage ≡ length l.initial.storage)
    × (l.from ≤ length l.bytes)
    × InBytes l.word
    × Inside l.chain l.program l.here
    × (readable (length l.storage) l.word ≡ true)
    × ((p : Lent) → p.chain ≡ l.chain → p.program ≡ l.program → rest p (length l.storage) l.here l.word (drop l.from l.bytes) l.storage ≡ rest p (length l.initial.storage) l.initial.here l.initial.word l.bytes l.initial.storage)

abbrev pub decreases-loop-storage : goal.decreases-loop-storage
decreases-loop-storage l = length l.bytes - l.from
