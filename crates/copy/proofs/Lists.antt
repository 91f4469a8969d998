-- Lists behind a copy, and behind a lent part.
--   filled              the front of what was filled
--   tail_lent           what is lent as `&mut x[a..]`
--   tail_home           the whole after such a part comes home
--   put_home            the whole after a copy to the front of such a part
use Prim.Native.Nat.{ℕ, ◌+◌, ◌-◌}
use native.Mathlib.Omega.{arith}
use mathlib.Core.Path.{◌≡◌, ap, ◌∙◌}
use mathlib.Core.List.{List, ◌++◌, append-nil}
use lib.ListN.{length, take, drop, length-drop, drop_of_length-le}
use lib.Seq.{take_all, drop-drop, take-append_seam}
use borrow.Rule.Slice.PartMut.{mid_of, put_mid}

pub filled : (s z t : List ℕ) → t ≡ s ++ drop (length s) z → take (length s) t ≡ s
filled s z t e = rw e (take-append_seam s (drop (length s) z))

pub tail_lent : (x : List ℕ) (a : ℕ) → mid_of a (length x - a) x ≡ drop a x
tail_lent x a = take_all (length x - a) (drop a x) (rw length-drop (omega arith))

pub tail_home : (x : List ℕ) (a : ℕ) (ys : List ℕ) → put_mid a (length x - a) x ys ≡ take a x ++ ys
tail_home x a ys =
    ap (λ (l : List ℕ). take a x ++ (ys ++ l)) (drop_of_length-le (drop a x) {i = length x - a} (rw length-drop (omega arith)))
    ∙ ap (λ (l : List ℕ). take a x ++ l) (append-nil ys)

pub put_home : (x s : List ℕ) (a : ℕ) (ys : List ℕ) → ys ≡ s ++ drop (length s) (mid_of a (length x - a) x)
    → put_mid a (length x - a) x ys ≡ take a x ++ (s ++ drop (a + length s) x)
put_home x s a ys e = tail_home x a ys ∙ ap (λ (l : List ℕ). take a x ++ l) (e ∙ rw (tail_lent x a, drop-drop))
