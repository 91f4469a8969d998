-- `read_bytes::hold` meets its contract: what is known of one byte is known of all, and there is none where it reads none. Assumes nothing.
use Prim.Native.Nat.{ℕ, ◌≤◌}
use native.Mathlib.Omega.{arith}
use mathlib.Core.List.{List, [], ◌∷◌}
use lib.ListN.{length}
use Rattle.read_bytes.specs.Bytes.{AreBytes}
use Rattle.read_bytes.proofs.hold.Goals as goal

pub returns-then-s-gt0 : goal.returns-then-s-gt0
returns-then-s-gt0 c = λ i. (c.shared_slice_known-1.given i).fits

none_hold : (s : List ℕ) → length s ≤ 0 → AreBytes s
none_hold [] h = λ i. omega arith
none_hold (b ∷ s) h = absurd (omega arith)

pub returns-else-s-gt0 : goal.returns-else-s-gt0
returns-else-s-gt0 c = none_hold c.args.s.now c.if-s-gt0.false
