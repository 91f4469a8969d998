-- Ten bytes: two, and the eight of a CSW behind them.
--   two_kept     two bytes put at the front keep the length
--   put_behind, put_behind_kept   the whole, and its length
use Prim.Native.Nat.{ℕ, suc, ◌-◌}
use native.Mathlib.Omega.{arith}
use mathlib.Core.Path.{◌≡◌, ap, sym, ◌∙◌}
use mathlib.Core.List.{List, [], ◌∷◌, ◌++◌, append-nil}
use lib.ListN.{length, set, take, drop, length-set, length-take}
use lib.Seq.{drop-length}
use borrow.Rule.Slice.PartMut.{mid_of, put_mid}

pub two_kept : (x : List ℕ) (a b : ℕ) → length (set (set x 0 a) 1 b) ≡ length x
two_kept x a b = length-set (set x 0 a) 1 b ∙ length-set x 0 a

pub put_behind : (x : List ℕ) (what action : ℕ) (c part : List ℕ) → length x ≡ 10
    → part ≡ c ++ drop 8 (mid_of 2 (length (set (set x 0 what) 1 action) - 2) (set (set x 0 what) 1 action))
    → put_mid 2 (length (set (set x 0 what) 1 action) - 2) (set (set x 0 what) 1 action) part ≡ what ∷ action ∷ c
put_behind [] what action c part n e = absurd (omega arith)
put_behind (u ∷ []) what action c part n e = absurd (omega arith)
put_behind (u ∷ v ∷ r) what action c part n e =
    let m : suc (suc (length r)) - 2 ≡ 8 = omega arith in
    let k : length r ≡ 8 = omega arith in
    let none : drop 8 r ≡ [] = ap (λ j. drop j r) (sym k) ∙ drop-length r in
    let eight : length (take 8 r) ≡ 8 = length-take 8 r ∙ omega arith in
    let part_is : part ≡ c = (rw m at e) ∙ ap (λ s. c ++ s) (ap (λ j. drop j (take 8 r)) (sym eight) ∙ drop-length (take 8 r)) ∙ append-nil c in
    rw m (ap (λ s. what ∷ action ∷ s) (rw (none, part_is) (append-nil c)))

pub put_behind_kept : (x : List ℕ) (what action : ℕ) (c part : List ℕ) → length x ≡ 10 → length c ≡ 8
    → part ≡ c ++ drop 8 (mid_of 2 (length (set (set x 0 what) 1 action) - 2) (set (set x 0 what) 1 action))
    → length (put_mid 2 (length (set (set x 0 what) 1 action) - 2) (set (set x 0 what) 1 action) part) ≡ length x
put_behind_kept x what action c part n m e = ap length (put_behind x what action c part n e) ∙ omega arith
