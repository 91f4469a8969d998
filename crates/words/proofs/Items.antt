-- Texts out of a list.
--   after_none, after_slash, after_other   what is to be passed behind a byte
--   rest_turn, rest_none, rest_end         one turn of the way to a text, and its end
--   ends_turn, ends_here, ends_last        one turn of the way to a text's end, and its end
--   item_part                              the text between the two places
--   item_short, part_short                 its length
use Prim.Native.Nat.{ℕ, ◌+◌, ◌-◌, ◌<◌, ◌≤◌}
use native.Mathlib.Nat.{add-zero, add-sub_cancel_left}
use native.Mathlib.Numerals.{add-one}
use native.Mathlib.Omega.{arith}
use mathlib.Core.Path.{◌≡◌, refl, ap}
use mathlib.Core.Bool.{Bool, true, false, ◌&&◌}
use mathlib.Core.List.{List, [], ◌∷◌}
use lib.Dec.{eqb, ltb}
use lib.ListN.{length, take, drop, get_or, drop_of_length-le}
use lib.Seq.{drop-cons}
use borrow.Author.Tests.{eq-eqb, ne_eqb, eqb-true, eqb-false, ltb-true}
use Rattle.base.specs.Choice.{pick}
use Rattle.base.proofs.Choice.{split, and_left, and_right}
use Rattle.words.specs.Words.{up_to, after, rest, item, room_after, short_from, short}

pub after_none : (n b : ℕ) → n ≡ 0 → 0 ≡ after n b
unfolding after pick
after_none n b e = by (eqb b 0x2f) e
  where
    by : (t : Bool) → n ≡ 0 → 0 ≡ pick t (n - 1) n
    by true e = omega arith
    by false e = omega arith

pub after_slash : (n b : ℕ) → b ≡ 0x2f → n - 1 ≡ after n b
unfolding after pick
after_slash n b e = rw (eq-eqb b 0x2f e)

pub after_other : (n b : ℕ) → (b ≡ 0x2f → ⊥) → n ≡ after n b
unfolding after pick
after_other n b e = rw (ne_eqb b 0x2f e)

-- ---- the way to a text

pub rest_turn : (s : List ℕ) (at n : ℕ) {m : ℕ} → at < length s → (n ≡ 0 → ⊥) → m ≡ after n (get_or s at 0) → rest m (drop (at + 1) s) ≡ rest n (drop at s)
unfolding rest pick
rest_turn s at n h k e = rw (drop-cons s at 0 h, ne_eqb n 0 k, add-one, e)

pub rest_none : (s : List ℕ) (n : ℕ) → n ≡ 0 → s ≡ rest n s
unfolding rest pick
rest_none [] n e = refl
rest_none (b ∷ s) n e = rw (eq-eqb n 0 e)

pub rest_end : (s : List ℕ) (at n : ℕ) → length s ≤ at → drop at s ≡ rest n (drop at s)
unfolding rest
rest_end s at n h = rw (drop_of_length-le s h)

-- ---- the way to its end

module _ (s : List ℕ) (at : ℕ) where
  pub ends_turn : at < length s → (get_or s at 0 ≡ 0x2f → ⊥) → at + 1 + length (up_to (drop (at + 1) s)) ≡ at + length (up_to (drop at s))
  unfolding up_to pick
  ends_turn h k = rw (drop-cons s at 0 h, ne_eqb _ _ k, add-one) (omega arith)

  pub ends_here : at < length s → get_or s at 0 ≡ 0x2f → at ≡ at + length (up_to (drop at s))
  unfolding up_to pick
  ends_here h k = rw (drop-cons s at 0 h, eq-eqb _ _ k, add-zero)

  pub ends_last : length s ≤ at → at ≡ at + length (up_to (drop at s))
  unfolding up_to
  ends_last h = rw (drop_of_length-le s h, add-zero)

-- ---- the text

take_up_to : (s : List ℕ) → take (length (up_to s)) s ≡ up_to s
unfolding up_to pick
take_up_to [] = refl
take_up_to (b ∷ s) = by (eqb b 0x2f) (take_up_to s)
  where
    by : (t : Bool) → take (length (up_to s)) s ≡ up_to s → take (length (pick t [] (b ∷ up_to s))) (b ∷ s) ≡ pick t [] (b ∷ up_to s)
    by true e = refl
    by false e = ap (λ (l : List ℕ). b ∷ l) e

pub item_part : (s : List ℕ) (i from end : ℕ) → drop from s ≡ rest i s → end ≡ from + length (up_to (drop from s)) → take (end - from) (drop from s) ≡ item i s
unfolding item
item_part s i from end e k = rw (k, add-sub_cancel_left, e) (take_up_to (rest i s))

-- ---- its length

up_to_short : (most n : ℕ) (s : List ℕ) → short_from most n s ≡ true → length (up_to s) ≤ n
unfolding short_from room_after up_to pick
up_to_short most n [] h = omega arith
up_to_short most n (b ∷ s) h =
    split (eqb b 0x2f) (λ e. rw e (omega arith))
    (λ e. let g : (ltb 0 n && short_from most (n - 1) s) ≡ true = rw e at h in
    let p : 0 < n = ltb-true 0 n (and_left (ltb 0 n) (short_from most (n - 1) s) g) in
    let q : length (up_to s) ≤ n - 1 = up_to_short most (n - 1) s (and_right (ltb 0 n) (short_from most (n - 1) s) g) in
    rw e (omega arith))

rest_short : (most n : ℕ) (s : List ℕ) (k : ℕ) → (k ≡ 0 → ⊥) → short_from most n s ≡ true → short_from most most (rest k s) ≡ true
unfolding short_from room_after rest after pick
rest_short most n [] k z h = refl
rest_short most n (b ∷ s) k z h =
    split (eqb b 0x2f)
    (λ e. let g : short_from most most s ≡ true = rw e at h in
    split (eqb (k - 1) 0)
    (λ f. rw (ne_eqb k 0 z, e, ← (rest_none s (k - 1) (eqb-true (k - 1) 0 f))) g)
    (λ f. rw (ne_eqb k 0 z, e) (rest_short most most s (k - 1) (eqb-false (k - 1) 0 f) g)))
    (λ e. let g : (ltb 0 n && short_from most (n - 1) s) ≡ true = rw e at h in
    rw (ne_eqb k 0 z, e) (rest_short most (n - 1) s k z (and_right (ltb 0 n) (short_from most (n - 1) s) g)))

pub item_short : (most : ℕ) (s : List ℕ) (i : ℕ) → short most s ≡ true → length (item i s) ≤ most
unfolding short item
item_short most s i h =
    split (eqb i 0)
    (λ e. rw (← (rest_none s i (eqb-true i 0 e))) (up_to_short most most s h))
    (λ e. up_to_short most most (rest i s) (rest_short most most s i (eqb-false i 0 e) h))

pub part_short : (most : ℕ) (s : List ℕ) (i from end : ℕ) → drop from s ≡ rest i s → end ≡ from + length (up_to (drop from s)) → short most s ≡ true
    → length (take (end - from) (drop from s)) ≤ most
part_short most s i from end e k h = rw (item_part s i from end e k) (item_short most s i h)
