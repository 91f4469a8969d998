-- Where bytes of a read stayed.
--   final_past       no byte past the places
--   passes, all_pass a stretch more, of one byte and of three
--   mended_is        the correction of a read, at three places
use Rattle.std.specs.Prelude.{Option, Some, None}
use Prim.Native.Nat.{ℕ, zero, suc, ◌+◌, ◌-◌, ◌<◌, ◌≤◌}
use native.Mathlib.Omega.{arith}
use mathlib.Core.Path.{◌≡◌, refl, ap, sym, ◌∙◌}
use mathlib.Core.Bool.{true, false, ◌&&◌}
use mathlib.Core.List.{List, [], ◌∷◌, ◌++◌}
use lib.Dec.{eqb, ltb, leb}
use lib.ListN.{length, take, replicate}
use borrow.Author.Tests.{ne_eqb, eqb-false, ltb-true, ltb-false, le-leb, lt-leb}
use Rattle.base.specs.Choice.{pick}
use Rattle.base.proofs.Choice.{split, pick_true, pick_false, and_second}
use Rattle.channel.specs.declared.Ccw.{Ccw}
use Rattle.channel.specs.Ccw.{skips}
use Rattle.channel.specs.Walk.{place_under}
use Rattle.channel.proofs.Stretch.{places_under, length_places_under}
use Rattle.drive.specs.Step.{spread}
use Rattle.recovery.specs.Correct.{mend, same_place, overwritten, corrected}
use Rattle.recovery.proofs.Restored.{mend_none}
use Rattle.correction.specs.Retraced.{final_at, stayed_of, place_of, three_stayed_of, overwrites, unless_overwritten, passed, all_passed, mended}

pub final_past : (ps : List (Option ℕ)) (j : ℕ) → length ps ≤ j → final_at ps j ≡ None
unfolding final_at
final_past [] j h = refl
final_past (q ∷ ps) zero h = absurd (omega arith)
final_past (q ∷ ps) (suc j) h = final_past ps j (omega arith)

-- a place, unless a later byte goes there
unfoldable unless : Option ℕ → List (Option ℕ) → Option ℕ
unless q qs = pick (overwritten q qs) None q

overwritten_append : (q : Option ℕ) (ps qs : List (Option ℕ)) → overwritten q ps ≡ false → overwritten q (ps ++ qs) ≡ overwritten q qs
unfolding overwritten pick
overwritten_append q [] qs h = refl
overwritten_append q (p ∷ ps) qs h =
    split (same_place q p)
    (λ e. let v : true ≡ false = rw e at h in let z : ◌≡◌ {A = ℕ} 0 1 = cc in absurd (omega arith))
    (λ e. rw e (overwritten_append q ps qs (rw e at h)))

overwritten_first : (q : Option ℕ) (ps qs : List (Option ℕ)) → overwritten q ps ≡ true → overwritten q (ps ++ qs) ≡ true
unfolding overwritten pick
overwritten_first q [] qs h = let z : ◌≡◌ {A = ℕ} 0 1 = cc in absurd (omega arith)
overwritten_first q (p ∷ ps) qs h = split (same_place q p) (λ e. rw e) (λ e. rw e (overwritten_first q ps qs (rw e at h)))

nowhere_stays : (qs : List (Option ℕ)) → unless None qs ≡ None
unfolding unless pick
nowhere_stays qs = split (overwritten None qs) (λ e. rw e) (λ e. rw e)

-- two stretches behind each other
final_front : (ps qs : List (Option ℕ)) (j : ℕ) → j < length ps → final_at (ps ++ qs) j ≡ unless (final_at ps j) qs
unfolding final_at unless
final_front [] qs j h = absurd (omega arith)
final_front (p ∷ ps) qs zero h =
    split (overwritten p ps)
    (λ e. pick_true _ _ (overwritten_first p ps qs e) ∙ sym (ap (λ q. unless q qs) (pick_true None p e) ∙ nowhere_stays qs))
    (λ e. ap (λ b. pick b None p) (overwritten_append p ps qs e) ∙ sym (ap (λ q. unless q qs) (pick_false None p e)))
final_front (p ∷ ps) qs (suc j) h = final_front ps qs j (omega arith)

final_behind : (ps qs : List (Option ℕ)) (j : ℕ) → length ps ≤ j → final_at (ps ++ qs) j ≡ final_at qs (j - length ps)
unfolding final_at
final_behind [] qs j h = let e : j - 0 ≡ j = omega arith in rw e
final_behind (p ∷ ps) qs zero h = absurd (omega arith)
final_behind (p ∷ ps) qs (suc j) h = let e : suc j - suc (length ps) ≡ j - length ps = omega arith in rw e (final_behind ps qs j (omega arith))

-- ---- under one CCW

module _ (c : Ccw) (s : skips c ≡ true) where
  skipped_free : (q : Option ℕ) (a n : ℕ) → overwritten q (places_under c a n) ≡ false
  unfolding overwritten places_under place_under same_place pick
  skipped_free q a zero = refl
  skipped_free None a (suc n) = rw s (skipped_free None (a + 1) n)
  skipped_free (Some b) a (suc n) = rw s (skipped_free (Some b) (a + 1) n)

  skipped_nowhere : (a n j : ℕ) → final_at (places_under c a n) j ≡ None
  unfolding final_at places_under place_under pick
  skipped_nowhere a zero j = refl
  skipped_nowhere a (suc n) zero = rw (s, skipped_free None (a + 1) n)
  skipped_nowhere a (suc n) (suc j) = skipped_nowhere (a + 1) n j

module _ (c : Ccw) (s : skips c ≡ false) where
  overwritten_out : (b a n : ℕ) → (b < a → ⊥) → (a + n ≤ b → ⊥) → overwritten (Some b) (places_under c a n) ≡ true
  unfolding overwritten places_under place_under same_place pick
  overwritten_out b a zero h g = absurd (g (omega arith))
  overwritten_out b a (suc n) h g =
      split (eqb b a) (λ e. rw (s, e))
      (λ e. let k = eqb-false b a e in rw (s, e) (overwritten_out b (a + 1) n (λ z. k (omega arith)) (λ z. g (omega arith))))

  overwritten_below : (b a n : ℕ) → b < a → overwritten (Some b) (places_under c a n) ≡ false
  unfolding overwritten places_under place_under same_place pick
  overwritten_below b a zero h = refl
  overwritten_below b a (suc n) h = rw (s, ne_eqb b a (λ e. omega arith)) (overwritten_below b (a + 1) n (omega arith))

  overwritten_above : (b a n : ℕ) → a + n ≤ b → overwritten (Some b) (places_under c a n) ≡ false
  unfolding overwritten places_under place_under same_place pick
  overwritten_above b a zero h = refl
  overwritten_above b a (suc n) h = rw (s, ne_eqb b a (λ e. omega arith)) (overwritten_above b (a + 1) n (omega arith))

  final_under : (a n j : ℕ) → j < n → final_at (places_under c a n) j ≡ Some (a + j)
  unfolding final_at places_under place_under pick
  final_under a zero j h = absurd (omega arith)
  final_under a (suc n) zero h =
      let e : a + 0 ≡ a = omega arith in
      rw (s, overwritten_below a (a + 1) n (omega arith), e)
  final_under a (suc n) (suc j) h = final_under (a + 1) n j (omega arith) ∙ ap (λ (k : ℕ). Some k) (omega arith)

-- ---- a stretch more

-- by a test that came out one way
unless_free : (q : Option ℕ) (qs : List (Option ℕ)) → overwritten q qs ≡ false → unless q qs ≡ q
unfolding unless
unless_free q qs e = pick_false None q e

unless_overwritten_lem : (q : Option ℕ) (qs : List (Option ℕ)) → overwritten q qs ≡ true → unless q qs ≡ None
unfolding unless
unless_overwritten_lem q qs e = pick_true None q e

unless_stayed : (c : Ccw) (n : ℕ) (q : Option ℕ) → skips c ≡ false → stayed_of (unless q (places_under c c.address n)) ≡ pick (overwrites c n (stayed_of q)) None (stayed_of q)
unfolding overwrites
unless_stayed c n None s = ap stayed_of (nowhere_stays (places_under c c.address n)) ∙ sym (pick_false None None refl)
unless_stayed c n (Some b) s =
    split (ltb b c.address)
    (λ e.
    let k : b < c.address = ltb-true _ _ e in
    ap stayed_of (unless_free (Some b) (places_under c c.address n) (overwritten_below c s b c.address n k))
    ∙ sym (pick_false None (Some b) (rw (lt-leb c.address b k))))
    (λ e.
    let k : c.address ≤ b = ltb-false _ _ e in
    split (ltb b (c.address + n))
    (λ f.
    let m : b < c.address + n = ltb-true _ _ f in
    ap stayed_of (unless_overwritten_lem (Some b) (places_under c c.address n) (overwritten_out c s b c.address n (λ z. omega arith) (λ z. omega arith)))
    ∙ sym (pick_true None (Some b) (rw (le-leb c.address b k, f))))
    (λ f.
    let m : c.address + n ≤ b = ltb-false _ _ f in
    ap stayed_of (unless_free (Some b) (places_under c c.address n) (overwritten_above c s b c.address n m))
    ∙ sym (pick_false None (Some b) (and_second (leb c.address b) f))))

module _ (ps : List (Option ℕ)) (c : Ccw) (n j : ℕ) where
  abbrev qs : List (Option ℕ)
  qs = places_under c c.address n

  -- where byte j stands behind the stretch, in front of it, and what a stretch does with that
  passes_skipped : skips c ≡ true → final_at (ps ++ qs) j ≡ final_at ps j
  passes_skipped s =
      split (ltb j (length ps))
      (λ e. final_front ps qs j (ltb-true _ _ e) ∙ unless_free (final_at ps j) qs (skipped_free c s (final_at ps j) c.address n))
      (λ e.
      let k : length ps ≤ j = ltb-false _ _ e in
      final_behind ps qs j k ∙ skipped_nowhere c s c.address n (j - length ps) ∙ sym (final_past ps j k))

  passes_stored : skips c ≡ false → stayed_of (final_at (ps ++ qs) j)
      ≡ pick (leb (length ps) j && ltb j (length ps + n)) (Some (c.address + (j - length ps))) (pick (overwrites c n (stayed_of (final_at ps j))) None (stayed_of (final_at ps j)))
  unfolding overwrites
  passes_stored s =
      split (ltb j (length ps))
      (λ e.
      let k : j < length ps = ltb-true _ _ e in
      ap stayed_of (final_front ps qs j k) ∙ unless_stayed c n (final_at ps j) s ∙ sym (pick_false _ _ (rw (lt-leb (length ps) j k))))
      (λ e.
      let k : length ps ≤ j = ltb-false _ _ e in
      split (ltb j (length ps + n))
      (λ f.
      let m : j < length ps + n = ltb-true _ _ f in
      ap stayed_of (final_behind ps qs j k ∙ final_under c s c.address n (j - length ps) (omega arith)) ∙ sym (pick_true _ _ (rw (le-leb (length ps) j k, f))))
      (λ f.
      let m : length ps + n ≤ j = ltb-false _ _ f in
      ap stayed_of (final_behind ps qs j k ∙ final_past qs (j - length ps) (rw (length_places_under c c.address n) (omega arith)))
      ∙ sym (pick_false _ _ (and_second (leb (length ps) j) f) ∙ rw (final_past ps j k) (pick_false None None refl))))

  pub passes : stayed_of (final_at (ps ++ qs) j) ≡ passed c (length ps) n j (stayed_of (final_at ps j))
  unfolding passed unless_overwritten
  passes =
      split (skips c) (λ s. ap stayed_of (passes_skipped s) ∙ sym (pick_true _ _ s)) (λ s. passes_stored s ∙ sym (pick_false _ _ s))

pub all_pass : (ps : List (Option ℕ)) (c : Ccw) (n k : ℕ) → three_stayed_of k (ps ++ places_under c c.address n) ≡ all_passed c (length ps) n k (three_stayed_of k ps)
unfolding all_passed
all_pass ps c n k = λ i. record { first = passes ps c n k i; second = passes ps c n (k + 1) i; third = passes ps c n (k + 2) i }

-- ---- the correction

corrected_none : (ps : List (Option ℕ)) (m : ℕ) (st : List ℕ) → corrected ps (replicate m 0) st ≡ st
unfolding corrected
corrected_none [] m st = refl
corrected_none (p ∷ ps) zero st = refl
corrected_none (p ∷ ps) (suc m) st =
    corrected_none ps m _
    ∙ split (overwritten p ps) (λ e. pick_true _ _ e) (λ e. pick_false _ _ e ∙ mend_none p st)

-- one byte at its place, or where it stayed
mend_final : (p : Option ℕ) (ps : List (Option ℕ)) (x : ℕ) (st : List ℕ) → pick (overwritten p ps) st (mend p x st) ≡ mend (pick (overwritten p ps) None p) x st
unfolding mend
mend_final p ps x st =
    split (overwritten p ps) (λ e. pick_true _ _ e ∙ sym (ap (λ q. mend q x st) (pick_true None p e)))
    (λ e. pick_false _ _ e ∙ sym (ap (λ q. mend q x st) (pick_false None p e)))

module _ (x y z : ℕ) where
  abbrev three : List (Option ℕ) → ℕ → List ℕ → List ℕ
  three ps k st = mend (final_at ps (k + 2)) z (mend (final_at ps (k + 1)) y (mend (final_at ps k) x st))

  abbrev spread_over : ℕ → ℕ → List ℕ
  spread_over m k = replicate k 0 ++ (x ∷ y ∷ z ∷ []) ++ replicate m 0

  corrected_three : (k : ℕ) (ps : List (Option ℕ)) (m : ℕ) (st : List ℕ) → corrected ps (spread_over m k) st ≡ three ps k st
  unfolding corrected final_at mend
  corrected_three zero [] m st = refl
  corrected_three zero (p ∷ []) m st = mend_final p [] x st
  corrected_three zero (p ∷ q ∷ []) m st = mend_final q [] y _ ∙ ap (λ s. mend (pick (overwritten q []) None q) y s) (mend_final p (q ∷ []) x st)
  corrected_three zero (p ∷ q ∷ r ∷ ps) m st =
      corrected_none ps m _
      ∙ mend_final r ps z _
      ∙ ap (λ s. mend (pick (overwritten r ps) None r) z s)
      (mend_final q (r ∷ ps) y _ ∙ ap (λ s. mend (pick (overwritten q (r ∷ ps)) None q) y s) (mend_final p (q ∷ r ∷ ps) x st))
  corrected_three (suc k) [] m st = refl
  corrected_three (suc k) (p ∷ ps) m st =
      let one : suc k + 1 ≡ suc (k + 1) = omega arith in
      let two : suc k + 2 ≡ suc (k + 2) = omega arith in
      rw (one, two)
      (corrected_three k ps m _
      ∙ ap (three ps k) (split (overwritten p ps) (λ e. pick_true _ _ e) (λ e. pick_false _ _ e ∙ mend_none p st)))

corrected_take : (ps : List (Option ℕ)) (n : ℕ) (xs st : List ℕ) → length ps ≤ n → corrected ps (take n xs) st ≡ corrected ps xs st
unfolding corrected
corrected_take [] n xs st h = refl
corrected_take (p ∷ ps) zero xs st h = absurd (omega arith)
corrected_take (p ∷ ps) (suc n) [] st h = refl
corrected_take (p ∷ ps) (suc n) (x ∷ xs) st h = corrected_take ps n xs _ (omega arith)

place_stayed : (q : Option ℕ) → place_of (stayed_of q) ≡ q
place_stayed None = refl
place_stayed (Some a) = refl

pub mended_is : (ps : List (Option ℕ)) (n k x y z : ℕ) (st : List ℕ) → length ps ≤ n
    → mended (record { stayed = three_stayed_of k ps; pattern0 = x; pattern1 = y; pattern2 = z }) st ≡ corrected ps (spread n k (x ∷ y ∷ z ∷ [])) st
unfolding mended spread
mended_is ps n k x y z st h =
    rw (place_stayed (final_at ps k), place_stayed (final_at ps (k + 1)), place_stayed (final_at ps (k + 2)))
    (sym (corrected_take ps n _ st h ∙ corrected_three x y z k ps n st))
