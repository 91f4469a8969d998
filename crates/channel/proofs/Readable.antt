-- A CCW that a read may use.
--   room       unless it skips, its range lies in storage
--   positive   its count is not 0
use Prim.Native.Nat.{ℕ, ◌+◌, ◌<◌, ◌≤◌}
use native.Mathlib.Omega.{arith}
use mathlib.Core.Path.{◌≡◌}
use mathlib.Core.Bool.{true, false, ◌||◌, not}
use lib.Dec.{leb, eqb}
use borrow.Author.Tests.{leb-true, eqb-false, not-true}
use Rattle.base.proofs.Choice.{and_left, and_right}
use Rattle.channel.specs.declared.Ccw.{Ccw}
use Rattle.channel.specs.Ccw.{skips, formed, storage_inside}
use Rattle.channel.specs.Walk.{readable}

module _ (size : ℕ) (c : Ccw) (h : readable size c ≡ true) where
  pub room : skips c ≡ false → c.address + c.count ≤ size
  unfolding readable storage_inside
  room e = leb-true _ _ (rw e at (and_right (formed c) (skips c || leb (c.address + c.count) size) h))

  pub positive : 0 < c.count
  unfolding readable formed
  positive =
      let f : formed c ≡ true = and_left (formed c) (storage_inside size c) h in
      let g : not (eqb c.count 0) ≡ true = and_left (not (eqb c.count 0)) _ f in
      let z : c.count ≡ 0 → ⊥ = eqb-false c.count 0 (not-true _ g) in
      omega arith
