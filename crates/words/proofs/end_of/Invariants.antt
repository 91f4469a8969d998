-- `words::end_of` meets its contract. Invariant: the text left ends where the whole does. Assumes nothing.
use Prim.Native.Nat.{◌+◌, ◌≤◌}
use mathlib.Core.Path.{◌≡◌}
use lib.ListN.{length, drop}
use Rattle.words.specs.Words.{up_to}
use Rattle.words.proofs.end_of.Given as goal

abbrev pub invariant-loop-at : goal.invariant-loop-at
invariant-loop-at l = (l.at ≤ length l.list) × (l.at + length (up_to (drop l.at l.list)) ≡ l.from + length (up_to (drop l.from l.list)))
