-- Texts one behind the other, put by a loop that counts up to m.
--   each_start, each_turn, each_none   the beginning, one turn, and the end
use Prim.Native.Nat.{ℕ, zero, suc, ◌+◌, ◌-◌, ◌<◌, ◌≤◌}
use native.Mathlib.Nat.{not-suc-le-zero}
use native.Mathlib.Numerals.{sub-one}
use native.Mathlib.Omega.{arith}
use mathlib.Core.Path.{◌≡◌}
use mathlib.Core.List.{List, ◌++◌}
use Rattle.text.specs.Text.{Puts}
use Rattle.text.proofs.Written.{puts_then, puts_none}
use Rattle.words.specs.Each.{each}

first : (n k : ℕ) (f : ℕ → List ℕ) → 0 < n → each n k f ≡ f k ++ each (n - 1) (k + 1) f
unfolding each
first zero k f h = absurd (not-suc-le-zero h)
first (suc n) k f h = rw sub-one

pub each_start : (m : ℕ) (f : ℕ → List ℕ) {x z : List ℕ} {at q : ℕ} → Puts x at (each (m - 0) 0 f) z q → Puts x at (each m 0 f) z q
each_start m f p =
    let e : m - 0 ≡ m = omega arith in
    rw e at p

module _ (m k : ℕ) (f : ℕ → List ℕ) {x : List ℕ} {at : ℕ} where
  pub each_turn : {y : List ℕ} {r : ℕ} → k < m → Puts x at (f k) y r → (z : List ℕ) (q : ℕ) → Puts y r (each (m - (k + 1)) (k + 1) f) z q → Puts x at (each (m - k) k f) z q
  each_turn h p z q o =
      let e : m - (k + 1) ≡ m - k - 1 = omega arith in
      rw (first (m - k) k f (omega arith), ← e) (puts_then p o)

  pub each_none : m ≤ k → Puts x at (each (m - k) k f) x at
  unfolding each
  each_none h =
      let e : m - k ≡ 0 = omega arith in
      rw e (puts_none x at)
