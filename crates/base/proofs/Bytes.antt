-- Laws of `part`, `be16_at` and `drop`.
--   length_part, get_or-part, be16-part  a part's length and what stands in it
--   part-part                           a part of a part
--   be16-drop, part-drop                the same of the bytes from a place on
--   part_three                          a part of three bytes
--   to_end                              all bytes from a place on
--   two_back, three_back                a number out of its two or three bytes
use Prim.Native.Nat.{ℕ, zero, suc, ◌+◌, ◌-◌, ◌*◌, ◌/◌, ◌%◌, ◌<◌, ◌≤◌}
use native.Mathlib.Omega.{arith}
use mathlib.Core.Path.{◌≡◌, ap, ◌∙◌}
use mathlib.Core.List.{List, [], ◌∷◌}
use lib.ListN.{length, get_or, take, drop, length-take, length-drop}
use lib.Seq.{get_or-take, get_or-drop, drop-drop, take_all, take-take, take-nil, drop-cons}
use Rattle.base.specs.Bytes.{be16_at, part}

drop-take : (a n : ℕ) (l : List ℕ) → drop a (take n l) ≡ take (n - a) (drop a l)
drop-take zero n l = let e : n - 0 ≡ n = omega arith in rw e
drop-take (suc a) n [] = rw (take-nil n, take-nil (n - suc a))
drop-take (suc a) zero (x ∷ l) = let e : 0 - suc a ≡ 0 = omega arith in rw e
drop-take (suc a) (suc n) (x ∷ l) = let e : suc n - suc a ≡ n - a = omega arith in rw e (drop-take a n l)

module _ (s : List ℕ) (a e : ℕ) where
  pub length_part : e ≤ length s → length (part s a e) ≡ e - a
  unfolding part
  length_part h = simp (length-take, length-drop) (omega arith)

  pub get_or-part : (i : ℕ) → a + i < e → get_or (part s a e) i 0 ≡ get_or s (a + i) 0
  unfolding part
  get_or-part i h = let g : i < e - a = omega arith in rw (get_or-take (e - a) (drop a s) i 0 g, get_or-drop a s i 0)

  pub be16-part : (i : ℕ) → a + i + 1 < e → be16_at (part s a e) i ≡ be16_at s (a + i)
  be16-part i h =
      let n : a + (i + 1) ≡ a + i + 1 = omega arith in
      rw (get_or-part i (omega arith), get_or-part (i + 1) (omega arith), n)

  pub part-part : (i j : ℕ) → a + j ≤ e → part (part s a e) i j ≡ part s (a + i) (a + j)
  unfolding part
  part-part i j h =
      let g : j - i ≤ e - a - i = omega arith in
      let n : a + j - (a + i) ≡ j - i = omega arith in
      rw (drop-take i (e - a) (drop a s), drop-drop i a s, take-take (j - i) (e - a - i) (drop (a + i) s) g, n)

pub be16-drop : (at i : ℕ) (s : List ℕ) → be16_at (drop at s) i ≡ be16_at s (at + i)
be16-drop at i s = let e : at + (i + 1) ≡ at + i + 1 = omega arith in rw (get_or-drop at s i 0, get_or-drop at s (i + 1) 0, e)

pub part-drop : (at i j : ℕ) (s : List ℕ) → part (drop at s) i j ≡ part s (at + i) (at + j)
unfolding part
part-drop at i j s = let n : at + j - (at + i) ≡ j - i = omega arith in rw (drop-drop i at s, n)

pub to_end : (s : List ℕ) (a : ℕ) → take (length s - a) (drop a s) ≡ drop a s
to_end s a = take_all (length s - a) (drop a s) (rw length-drop (omega arith))

pub two_back : (n : ℕ) → n / 256 * 256 + n % 256 ≡ n
two_back n = omega arith

pub three_back : (n : ℕ) → n / 65536 * 65536 + (n / 256 % 256 * 256 + n % 256) ≡ n
three_back n = omega arith

-- one more byte in front, at i + 1
drop_one : (s : List ℕ) (a : ℕ) → a < length s → drop a s ≡ get_or s a 0 ∷ drop (a + 1) s
drop_one s a h = let one : suc a ≡ a + 1 = omega arith in drop-cons s a 0 h ∙ ap (λ n. get_or s a 0 ∷ drop n s) one

pub part_three : (s : List ℕ) (a : ℕ) → a + 3 ≤ length s → part s a (a + 3) ≡ get_or s a 0 ∷ get_or s (a + 1) 0 ∷ get_or s (a + 2) 0 ∷ []
unfolding part
part_three s a h =
    let n : a + 3 - a ≡ 3 = omega arith in
    let two : a + 1 + 1 ≡ a + 2 = omega arith in
    let tail : drop (a + 1) s ≡ get_or s (a + 1) 0 ∷ get_or s (a + 2) 0 ∷ drop (a + 2 + 1) s =
    drop_one s (a + 1) (omega arith) ∙ ap (λ l. get_or s (a + 1) 0 ∷ l) (rw two (drop_one s (a + 2) (omega arith))) in
    ap (λ l. take (a + 3 - a) l) (drop_one s a (omega arith) ∙ ap (λ l. get_or s a 0 ∷ l) tail) ∙ rw n
