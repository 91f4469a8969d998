-- A read's walk and its storing, a whole CCW at a time.
--   places_under           consecutive places under one CCW
--   behind_places          places in front of a walk
--   length_places_under    how many places they are
--   behind_places_walked   places in front of a walk's places
--   behind_places_checked  the same where a program check stopped it
--   behind_places_append   places in front of places in front
--   walk_short             the bytes end before the count does
--   walk_fits              the bytes do not pass the count of a CCW without CD
--   walk_over              they pass it
--   walk_out               both in one
--   walk_chained           the count of a CCW with CD runs out: the walk goes on with the next CCW
--   length_put             storing a byte keeps storage's length
--   length_store           so does storing a read
--   store_take             places take the bytes in front
--   store_append           more places take the bytes behind those
--   store_range            what the places under one CCW store
--   store_skipped          they store nothing where it skips
use Rattle.std.specs.Prelude.{Option, Some, None}
use Prim.Native.Nat.{ℕ, zero, suc, ◌+◌, ◌-◌, ◌≤◌, ◌<◌}
use mathlib.Core.Path.{◌≡◌, refl, ap, ◌∙◌}
use mathlib.Core.Bool.{Bool, true, false}
use mathlib.Core.List.{List, [], ◌∷◌, ◌++◌, append_assoc}
use lib.Dec.{ltb}
use lib.ListN.{length, take, drop, length-set}
use lib.Seq.{sets, sets-eq, length-take-le}
use native.Mathlib.Numerals.{add-one}
use native.Mathlib.Omega.{arith}
use borrow.Author.Tests.{ne_eqb, ltb-true, ltb-false}
use Rattle.base.specs.Choice.{pick}
use Rattle.base.proofs.Choice.{split}
use Rattle.channel.specs.declared.Ccw.{Ccw}
use Rattle.channel.specs.declared.Location.{Location}
use Rattle.channel.specs.Ccw.{Lent, chains_data, skips, next, resolve}
use Rattle.channel.specs.Store.{put, store}
use Rattle.channel.specs.Walk.{Walk, walked, checked, behind_place, place_under, chained, walk}

-- the places of m bytes under one CCW, from address a on
unfoldable pub places_under : Ccw → ℕ → ℕ → List (Option ℕ)
places_under c a zero = []
places_under c a (suc m) = place_under c a ∷ places_under c (a + 1) m

-- places in front of a walk
unfoldable pub behind_places : List (Option ℕ) → Walk → Walk
behind_places [] w = w
behind_places (q ∷ ps) w = behind_place q (behind_places ps w)

pub length_places_under : (c : Ccw) (a m : ℕ) → length (places_under c a m) ≡ m
unfolding places_under
length_places_under c a zero = refl
length_places_under c a (suc m) = ap suc (length_places_under c (a + 1) m)

pub behind_places_walked : (ps qs : List (Option ℕ)) (l : Location) (c : Ccw) (left : ℕ) (over : Bool)
    → behind_places ps (walked qs l c left over) ≡ walked (ps ++ qs) l c left over
unfolding behind_places behind_place
behind_places_walked [] qs l c left over = refl
behind_places_walked (q ∷ ps) qs l c left over = ap (behind_place q) (behind_places_walked ps qs l c left over)

pub behind_places_checked : (ps qs : List (Option ℕ)) (l : Location) → behind_places ps (checked qs l) ≡ checked (ps ++ qs) l
unfolding behind_places behind_place
behind_places_checked [] qs l = refl
behind_places_checked (q ∷ ps) qs l = ap (behind_place q) (behind_places_checked ps qs l)

pub behind_places_append : (ps qs : List (Option ℕ)) (w : Walk) → behind_places (ps ++ qs) w ≡ behind_places ps (behind_places qs w)
unfolding behind_places
behind_places_append [] qs w = refl
behind_places_append (q ∷ ps) qs w = ap (behind_place q) (behind_places_append ps qs w)

-- ---- walks

module _ (p : Lent) (size : ℕ) where
  -- one byte whose CCW goes on
  walk_one : (n : ℕ) (l : Location) (c : Ccw) (left a : ℕ) → (left ≡ 0 → chains_data c ≡ false)
      → walk p size (suc n) l c (suc left) a ≡ behind_place (place_under c a) (walk p size n l c left (a + 1))
  unfolding walk pick
  walk_one n l c zero a h = rw (h refl)
  walk_one n l c (suc left) a h = rw (ne_eqb (suc left) 0 (λ z. omega arith))

  -- the bytes do not pass the count, nor meet its end under CD
  walk_within : (n : ℕ) (l : Location) (c : Ccw) (left a : ℕ) → n ≤ left → (n ≡ left → chains_data c ≡ false)
      → walk p size n l c left a ≡ behind_places (places_under c a n) (walked [] l c (left - n) false)
  unfolding walk places_under behind_places
  walk_within zero l c left a h k = let e : left - 0 ≡ left = omega arith in rw e
  walk_within (suc n) l c zero a h k = absurd (omega arith)
  walk_within (suc n) l c (suc left) a h k =
      let e : suc left - suc n ≡ left - n = omega arith in
      walk_one n l c left a (λ z. k (omega arith))
      ∙ rw e (ap (behind_place (place_under c a)) (walk_within n l c left (a + 1) (omega arith) (λ z. k (omega arith))))

  module _ (n : ℕ) (l : Location) (c : Ccw) (left a : ℕ) where
    pub walk_short : n < left → walk p size n l c left a ≡ behind_places (places_under c a n) (walked [] l c (left - n) false)
    walk_short h = walk_within n l c left a (omega arith) (λ e. absurd (omega arith))

    pub walk_fits : n ≤ left → chains_data c ≡ false → walk p size n l c left a ≡ behind_places (places_under c a n) (walked [] l c (left - n) false)
    walk_fits h k = walk_within n l c left a h (λ e. k)

  pub walk_over : (n : ℕ) (l : Location) (c : Ccw) (left a : ℕ) → left < n → chains_data c ≡ false
      → walk p size n l c left a ≡ behind_places (places_under c a left) (walked [] l c 0 true)
  unfolding walk places_under behind_places
  walk_over zero l c left a h k = absurd (omega arith)
  walk_over (suc n) l c zero a h k = refl
  walk_over (suc n) l c (suc left) a h k =
      walk_one n l c left a (λ z. k) ∙ ap (behind_place (place_under c a)) (walk_over n l c left (a + 1) (omega arith) k)

  -- the count runs out with no CCW chained: bytes are left over where there are more
  pub walk_out : (n : ℕ) (l : Location) (c : Ccw) (k a : ℕ) → k ≤ n → chains_data c ≡ false
      → walk p size n l c k a ≡ behind_places (places_under c a k) (walked [] l c 0 (ltb k n))
  walk_out n l c k a h f =
      split (ltb k n) (λ e. rw e (walk_over n l c k a (ltb-true _ _ e) f))
      (λ e.
      let g : n ≤ k = ltb-false k n e in
      let q : n ≡ k = omega arith in
      let z : k - n ≡ 0 = omega arith in
      let w = walk_fits n l c k a g f in
      rw e (w ∙ rw z (ap (λ m. behind_places (places_under c a m) (walked [] l c 0 false)) q)))

  pub walk_chained : (n : ℕ) (l : Location) (c : Ccw) (left a : ℕ) → 0 < left → left ≤ n → chains_data c ≡ true
      → walk p size n l c left a ≡ behind_places (places_under c a left) (chained (walk p size (n - left)) size (resolve p l (next l)))
  unfolding walk places_under behind_places pick
  walk_chained n l c zero a z h k = absurd (omega arith)
  walk_chained zero l c (suc left) a z h k = absurd (omega arith)
  walk_chained (suc n) l c (suc zero) a z h k = let e : suc n - 1 ≡ n = omega arith in rw (k, e)
  walk_chained (suc n) l c (suc (suc left)) a z h k =
      let e : suc n - suc (suc left) ≡ n - suc left = omega arith in
      walk_one n l c (suc left) a (λ y. absurd (omega arith))
      ∙ rw e (ap (behind_place (place_under c a)) (walk_chained n l c (suc left) (a + 1) (omega arith) (omega arith) k))

-- ---- storing

pub length_put : (q : Option ℕ) (b : ℕ) (st : List ℕ) → length (put q b st) ≡ length st
unfolding put
length_put None b st = refl
length_put (Some a) b st = length-set st a b

pub length_store : (ps : List (Option ℕ)) (bs st : List ℕ) → length (store ps bs st) ≡ length st
unfolding store
length_store [] bs st = refl
length_store (q ∷ ps) [] st = refl
length_store (q ∷ ps) (b ∷ bs) st = length_store ps bs (put q b st) ∙ length_put q b st

pub store_take : (ps : List (Option ℕ)) (bs st : List ℕ) → store ps (take (length ps) bs) st ≡ store ps bs st
unfolding store
store_take [] bs st = refl
store_take (q ∷ ps) [] st = refl
store_take (q ∷ ps) (b ∷ bs) st = store_take ps bs (put q b st)

pub store_append : (ps qs : List (Option ℕ)) (bs st : List ℕ)
    → store (ps ++ qs) bs st ≡ store qs (drop (length ps) bs) (store ps (take (length ps) bs) st)
unfolding store
store_append [] qs bs st = refl
store_append (q ∷ ps) [] [] st = refl
store_append (q ∷ ps) (r ∷ qs) [] st = refl
store_append (q ∷ ps) qs (b ∷ bs) st = store_append ps qs bs (put q b st)

-- byte after byte
store_sets : (c : Ccw) (m a : ℕ) (bs st : List ℕ) → skips c ≡ false → m ≤ length bs → store (places_under c a m) bs st ≡ sets st a (take m bs)
unfolding store places_under put place_under pick
store_sets c zero a bs st h b = refl
store_sets c (suc m) a [] st h b = absurd (omega arith)
store_sets c (suc m) a (x ∷ bs) st h b = rw (h, add-one a) (store_sets c m (suc a) bs _ h (omega arith))

pub store_range : (c : Ccw) (m a : ℕ) (bs st : List ℕ) → skips c ≡ false → m ≤ length bs → a + m ≤ length st
    → store (places_under c a m) bs st ≡ take a st ++ (take m bs ++ drop (a + m) st)
store_range c m a bs st h b i =
    let e : length (take m bs) ≡ m = length-take-le m bs b in
    store_sets c m a bs st h b ∙ sets-eq (take m bs) st a (omega arith) ∙ append_assoc (take a st) (take m bs) _ ∙ rw e refl

pub store_skipped : (c : Ccw) (m a : ℕ) (bs st : List ℕ) → skips c ≡ true → store (places_under c a m) bs st ≡ st
unfolding store places_under put place_under pick
store_skipped c zero a bs st h = refl
store_skipped c (suc m) a [] st h = refl
store_skipped c (suc m) a (x ∷ bs) st h = rw h (store_skipped c m (a + 1) bs st h)
