-- Bytes in their places.
--   placed_more                    one byte of those that are placed
--   placed_all                     no byte is left
--   two_bytes, three_bytes         a number as its bytes
--   ccw_formed, address_placed     the bytes of a CCW, and of an address
use Prim.Native.Nat.{ℕ, suc, ◌+◌, ◌/◌, ◌%◌, ◌<◌, ◌≤◌}
use native.Mathlib.Omega.{arith}
use mathlib.Core.Path.{◌≡◌, ◌∙◌}
use mathlib.Core.List.{List, [], ◌∷◌}
use lib.ListN.{length, get_or, set, drop, drop_of_length-le}
use lib.Seq.{drop-cons}
use Rattle.std.specs.Int.{w16, w32, to_be_bytes}
use Rattle.base.specs.Bytes.{two, three}
use Rattle.address.specs.declared.Address.{Address}
use Rattle.drive.specs.Drive.{address_bytes}
use Rattle.restart.specs.Restart.{ccw_bytes}
use Rattle.restart_areas.specs.Placed.{placed}

module _ (s : List ℕ) (at : ℕ) (bytes : List ℕ) (i : ℕ) where
  pub placed_more : i < length bytes → placed (set s (at + i) (get_or bytes i 0)) (at + (i + 1)) (drop (i + 1) bytes) ≡ placed s (at + i) (drop i bytes)
  unfolding placed
  placed_more h =
      let n : at + (i + 1) ≡ at + i + 1 = omega arith in
      let m : suc i ≡ i + 1 = omega arith in
      rw (drop-cons bytes i 0 h, n, m)

  pub placed_all : length bytes ≤ i → s ≡ placed s (at + i) (drop i bytes)
  unfolding placed
  placed_all h = rw (drop_of_length-le bytes h)

two_bytes : (n : ℕ) → n < 65536 → to_be_bytes w16 n ≡ two n
unfolding two
two_bytes n h =
    let e : n / 256 % 256 ≡ n / 256 = omega arith in
    rw e

three_bytes : (n : ℕ) → n < 16777216 → to_be_bytes w32 n ≡ 0 ∷ three n
unfolding three
three_bytes n h =
    let a : n / 16777216 % 256 ≡ 0 = omega arith in
    let b : n / 65536 % 256 ≡ n / 65536 = omega arith in
    rw (a, b)

pub ccw_formed : (command address flags count : ℕ) → address < 16777216 → count < 65536 → {a c : List ℕ} → a ≡ to_be_bytes w32 address → c ≡ to_be_bytes w16 count
    → command ∷ get_or a 1 0 ∷ get_or a 2 0 ∷ get_or a 3 0 ∷ flags ∷ 0 ∷ get_or c 0 0 ∷ get_or c 1 0 ∷ [] ≡ ccw_bytes command address flags count
unfolding ccw_bytes two three
ccw_formed command address flags count h k {a} {c} e f =
    let x : a ≡ 0 ∷ three address = e ∙ three_bytes address h in
    let y : c ≡ two count = f ∙ two_bytes count k in
    rw (x, y)

pub address_placed : (s : List ℕ) (at : ℕ) (a : Address) → a.cylinder < 65536 → a.head < 65536 → {x y s₁ s₂ : List ℕ} → x ≡ to_be_bytes w16 a.cylinder → y ≡ to_be_bytes w16 a.head
    → s₁ ≡ placed s at x → s₂ ≡ placed s₁ (at + 2) y → s₂ ≡ placed s at (address_bytes a)
unfolding placed address_bytes two
address_placed s at a h k {x} {y} e f p q =
    let u : x ≡ two a.cylinder = e ∙ two_bytes _ h in
    let v : y ≡ two a.head = f ∙ two_bytes _ k in
    let n : at + 1 + 1 ≡ at + 2 = omega arith in
    q ∙ rw (p, u, v, n)
