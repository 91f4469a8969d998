-- Exclusive or, digit by digit.
--   xor_back   a number exclusive-ored twice with another is itself
use Prim.Native.Nat.{ℕ, zero, suc, ◌+◌, ◌*◌, ◌/◌, ◌%◌, ◌<◌}
use native.Mathlib.Omega.{arith}
use mathlib.Core.Path.{◌≡◌, refl, ◌∙◌}
use lib.Arith.{bin_ind}
use lib.Bits.{bit_xor, differ, xor_step, xor_self}

-- a digit is 0 or 1
differ_digit : (x y : ℕ) → x < 2 → y < 2 → differ x y < 2
differ_digit zero y hx hy = hy
differ_digit (suc zero) zero hx hy = hx
differ_digit (suc zero) (suc y) hx hy = omega arith
differ_digit (suc (suc x)) y hx hy = absurd (omega arith)

differ_back : (x y : ℕ) → x < 2 → y < 2 → differ (differ x y) y ≡ x
differ_back zero zero hx hy = refl
differ_back zero (suc zero) hx hy = refl
differ_back zero (suc (suc y)) hx hy = absurd (omega arith)
differ_back (suc zero) zero hx hy = refl
differ_back (suc zero) (suc zero) hx hy = refl
differ_back (suc zero) (suc (suc y)) hx hy = absurd (omega arith)
differ_back (suc (suc x)) y hx hy = absurd (omega arith)

pub xor_back : (a b : ℕ) → bit_xor (bit_xor a b) b ≡ a
xor_back = bin_ind (λ (n : ℕ). (b : ℕ) → bit_xor (bit_xor n b) b ≡ n) xor_self by
  where
    by : (n : ℕ) → ((b : ℕ) → bit_xor (bit_xor (n / 2) b) b ≡ n / 2) → (b : ℕ) → bit_xor (bit_xor n b) b ≡ n
    by n halved b =
        let digit : ℕ = differ (n % 2) (b % 2) in
        let rest : ℕ = bit_xor (n / 2) (b / 2) in
        let e : bit_xor n b ≡ rest * 2 + digit = xor_step n b in
        let small : digit < 2 = differ_digit (n % 2) (b % 2) (omega arith) (omega arith) in
        let high : bit_xor n b / 2 ≡ rest = omega arith in
        let low : bit_xor n b % 2 ≡ digit = omega arith in
        let back : differ digit (b % 2) ≡ n % 2 = differ_back (n % 2) (b % 2) (omega arith) (omega arith) in
        xor_step (bit_xor n b) b ∙ rw (high, low, halved (b / 2), back) (omega arith)
