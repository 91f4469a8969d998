-- The pattern of a fault in the bytes of a read.
--   arrived   three bytes exclusive-ored are what arrives
use Prim.Native.Nat.{ℕ, zero, suc, ◌+◌, ◌-◌, ◌≤◌}
use native.Mathlib.Omega.{arith}
use mathlib.Core.Path.{◌≡◌, refl, ap, ap₂, sym, ◌∙◌}
use mathlib.Core.List.{List, [], ◌∷◌, ◌++◌}
use lib.Bits.{bit_xor, xor_zero_l, xor_comm}
use lib.ListN.{length, take, replicate}
use Rattle.drive.specs.Step.{spread, xored, arriving}
use Rattle.base.specs.Bits.{xored_at}
use Rattle.read_bytes.specs.Pattern.{Arrives}

xor_none : (b : ℕ) → bit_xor b 0 ≡ b
xor_none b = xor_comm b 0 ∙ xor_zero_l b

-- ---- three bytes

-- with nothing but 0 behind the pattern, the rest stays
rest : (bs : List ℕ) (m : ℕ) → length bs ≤ m → bs ≡ xored bs (take (length bs) (replicate m 0))
unfolding xored
rest [] m h = refl
rest (b ∷ bs) zero h = absurd (omega arith)
rest (b ∷ bs) (suc m) h = ap₂ (λ (x : ℕ) (l : List ℕ). x ∷ l) (sym (xor_none b)) (rest bs m (omega arith))

module _ (x y z : ℕ) where
  three_xored : (k : ℕ) (bs : List ℕ) (m : ℕ) → length bs ≤ m
      → xored_at (suc (suc k)) z (xored_at (suc k) y (xored_at k x bs)) ≡ xored bs (take (length bs) (replicate k 0 ++ (x ∷ y ∷ z ∷ []) ++ replicate m 0))
  unfolding xored xored_at
  three_xored k [] m h = refl
  three_xored zero (a ∷ []) m h = refl
  three_xored zero (a ∷ b ∷ []) m h = refl
  three_xored zero (a ∷ b ∷ c ∷ bs) m h = ap (λ (l : List ℕ). bit_xor a x ∷ bit_xor b y ∷ bit_xor c z ∷ l) (rest bs m (omega arith))
  three_xored (suc k) (b ∷ bs) m h = ap₂ (λ (i : ℕ) (l : List ℕ). i ∷ l) (sym (xor_none b)) (three_xored k bs m (omega arith))

  pub arrived : (bs cs : List ℕ) (d : ℕ) → cs ≡ xored_at (length bs - d + 2) z (xored_at (length bs - d + 1) y (xored_at (length bs - d) x bs))
      → Arrives bs d (x ∷ y ∷ z ∷ []) cs
  unfolding arriving spread
  arrived bs cs d e = λ f g h.
      let one : length bs - d + 1 ≡ suc (length bs - d) = omega arith in
      let two : length bs - d + 2 ≡ suc (suc (length bs - d)) = omega arith in
      e ∙ rw (g, h, one, two) (three_xored (length bs - d) bs (length bs) (omega arith))
