-- The correction gives storage as the faultless read leaves it.
--   length_spread      a pattern spread over n bytes is n bytes
--   length_xored       bytes stay as many with others exclusive-ored into them
--   length_corrected   the correction keeps storage's length
--   not_here, not_later    a place that no later byte goes to, of the next byte and of those behind it
--   mend_none          0 exclusive-ored into a byte
--   restored           what arrived with a pattern in it, corrected by that pattern, is what was read
use Rattle.std.specs.Prelude.{Option, Some, None}
use Prim.Native.Nat.{ℕ, suc, ◌≤◌}
use native.Mathlib.Omega.{arith}
use mathlib.Core.Path.{◌≡◌, refl, ap, sym, ◌∙◌}
use mathlib.Core.Logic.{◌≢◌}
use mathlib.Core.Bool.{Bool, true, false}
use mathlib.Core.List.{List, [], ◌∷◌, ◌++◌}
use lib.Bits.{bit_xor, xor_zero_r}
use lib.Dec.{ltb}
use lib.ListN.{length, get_or, set, replicate, length-append, length-replicate, length-set}
use lib.Seq.{length-take-le, set-get_or, set-set, set_comm, set_out, get_or-set_same, get_or-set_other}
use borrow.Author.Tests.{eqb-true, eqb-false, ltb-true, ltb-false}
use Rattle.base.specs.Choice.{pick}
use Rattle.base.proofs.Choice.{pick_true, pick_false, both}
use Rattle.base.proofs.Bitwise.{xor_back}
use Rattle.channel.specs.Store.{put, store}
use Rattle.drive.specs.Step.{spread, xored}
use Rattle.recovery.specs.Correct.{mend, same_place, overwritten, corrected}

-- ---- lengths

pub length_spread : (n k : ℕ) (pattern : List ℕ) → length (spread n k pattern) ≡ n
unfolding spread
length_spread n k pattern =
    let z : ℕ = 0 in
    length-take-le n (replicate k z ++ pattern ++ replicate n z)
    (omega (arith, length-append (replicate k z ++ pattern) (replicate n z), length-replicate n z))

pub length_xored : (bs xs : List ℕ) → length bs ≤ length xs → length (xored bs xs) ≡ length bs
unfolding xored
length_xored [] xs h = refl
length_xored (b ∷ bs) [] h = absurd (omega arith)
length_xored (b ∷ bs) (x ∷ xs) h = ap suc (length_xored bs xs (omega arith))

length_mend : (q : Option ℕ) (x : ℕ) (st : List ℕ) → length (mend q x st) ≡ length st
unfolding mend
length_mend None x st = refl
length_mend (Some a) x st = length-set st a _

pub length_corrected : (ps : List (Option ℕ)) (xs st : List ℕ) → length (corrected ps xs st) ≡ length st
unfolding corrected
length_corrected [] xs st = refl
length_corrected (p ∷ ps) [] st = refl
length_corrected (p ∷ ps) (x ∷ xs) st =
    length_corrected ps xs (pick (overwritten p ps) st (mend p x st))
    ∙ both (λ (s : List ℕ). length s ≡ length st) (overwritten p ps) refl (length_mend p x st)

-- ---- places

same_place_lem : (p q : Option ℕ) → same_place p q ≡ true → p ≡ q
unfolding same_place
same_place_lem None None h = refl
same_place_lem None (Some a) h = cc
same_place_lem (Some a) None h = cc
same_place_lem (Some a) (Some b) h = ap Some (eqb-true a b h)

-- a place that no later byte goes to is neither the next one nor later overwritten
pub not_here : (p q : Option ℕ) (ps : List (Option ℕ)) → overwritten p (q ∷ ps) ≡ false → same_place p q ≡ false
unfolding overwritten pick
not_here p q ps h = by (same_place p q) refl
  where
    by : (b : Bool) → same_place p q ≡ b → same_place p q ≡ false
    by true e = e ∙ (rw e at h)
    by false e = e

pub not_later : (p q : Option ℕ) (ps : List (Option ℕ)) → overwritten p (q ∷ ps) ≡ false → overwritten p ps ≡ false
unfolding overwritten
not_later p q ps h = sym (pick_false true (overwritten p ps) (not_here p q ps h)) ∙ h

-- ---- two bytes

put_put : (p : Option ℕ) (b c : ℕ) (st : List ℕ) → put p b (put p c st) ≡ put p b st
unfolding put
put_put None b c st = refl
put_put (Some a) b c st = set-set st a c b

put_apart : (p q : Option ℕ) (b c : ℕ) (st : List ℕ) → same_place p q ≡ false → put p b (put q c st) ≡ put q c (put p b st)
unfolding put same_place
put_apart None None b c st h = refl
put_apart None (Some d) b c st h = refl
put_apart (Some a) None b c st h = refl
put_apart (Some a) (Some d) b c st h = set_comm st d a c b (λ e. eqb-false a d h (sym e))

mend_apart : (p q : Option ℕ) (x b : ℕ) (st : List ℕ) → same_place p q ≡ false → mend p x (put q b st) ≡ put q b (mend p x st)
unfolding put mend same_place
mend_apart None None x b st h = refl
mend_apart None (Some d) x b st h = refl
mend_apart (Some a) None x b st h = refl
mend_apart (Some a) (Some d) x b st h =
    let apart : a ≢ d = eqb-false a d h in
    rw (get_or-set_other st d a b 0 apart) (set_comm st d a b _ (λ e. apart (sym e)))

-- a byte that arrived with x in it, mended by x
mend_put : (p : Option ℕ) (b x : ℕ) (st : List ℕ) → mend p x (put p (bit_xor b x) st) ≡ put p b st
unfolding put mend
mend_put None b x st = refl
mend_put (Some a) b x st = by (ltb a (length st)) refl
  where
    by : (t : Bool) → ltb a (length st) ≡ t → set (set st a (bit_xor b x)) a (bit_xor (get_or (set st a (bit_xor b x)) a 0) x) ≡ set st a b
    by true e =
        rw (get_or-set_same st a (bit_xor b x) 0 (ltb-true a (length st) e), xor_back b x) (set-set st a (bit_xor b x) b)
    by false e = let out : length st ≤ a = ltb-false a (length st) e in simp set_out

pub mend_none : (q : Option ℕ) (st : List ℕ) → mend q 0 st ≡ st
unfolding mend
mend_none None st = refl
mend_none (Some a) st = ap (set st a) (xor_zero_r (get_or st a 0)) ∙ set-get_or st a 0

-- ---- the later bytes of a read

-- what a later byte overwrites does not matter
store_over : (p : Option ℕ) (b c : ℕ) (ps : List (Option ℕ)) (bs st : List ℕ) → length ps ≤ length bs → overwritten p ps ≡ true
    → store ps bs (put p b st) ≡ store ps bs (put p c st)
unfolding store overwritten
store_over p b c [] bs st n h = cc
store_over p b c (q ∷ ps) [] st n h = absurd (omega arith)
store_over p b c (q ∷ ps) (x ∷ bs) st n h = by (λ later s. store_over p b c ps bs s (omega arith) later) (same_place p q) refl
  where
    by : (overwritten p ps ≡ true → (s : List ℕ) → store ps bs (put p b s) ≡ store ps bs (put p c s)) → (t : Bool) → same_place p q ≡ t
        → store ps bs (put q x (put p b st)) ≡ store ps bs (put q x (put p c st))
    by over true e = rw (same_place_lem p q e, put_put q x b st, put_put q x c st)
    by over false e =
        rw (← (put_apart p q b x st e), ← (put_apart p q c x st e))
        (over (sym (pick_false true (overwritten p ps) e) ∙ h) (put q x st))

-- what none overwrites may be mended after the read
mend_after : (p : Option ℕ) (x : ℕ) (ps : List (Option ℕ)) (bs st : List ℕ) → overwritten p ps ≡ false → mend p x (store ps bs st) ≡ store ps bs (mend p x st)
unfolding store
mend_after p x [] bs st h = refl
mend_after p x (q ∷ ps) [] st h = refl
mend_after p x (q ∷ ps) (b ∷ bs) st h =
    mend_after p x ps bs (put q b st) (not_later p q ps h) ∙ ap (store ps bs) (mend_apart p q x b st (not_here p q ps h))

-- ---- the correction

pub restored : (ps : List (Option ℕ)) (bs xs st : List ℕ) → length ps ≤ length bs → length bs ≤ length xs
    → corrected ps xs (store ps (xored bs xs) st) ≡ store ps bs st
unfolding store xored corrected
restored [] bs xs st n m = refl
restored (p ∷ ps) [] xs st n m = absurd (omega arith)
restored (p ∷ ps) (b ∷ bs) [] st n m = absurd (omega arith)
restored (p ∷ ps) (b ∷ bs) (x ∷ xs) st n m =
    ap (corrected ps xs) (by (overwritten p ps) refl) ∙ restored ps bs xs (put p b st) (omega arith) (omega arith)
  where
    -- the first byte's correction is what the faultless first byte leaves
    by : (t : Bool) → overwritten p ps ≡ t
        → pick (overwritten p ps) (store ps (xored bs xs) (put p (bit_xor b x) st)) (mend p x (store ps (xored bs xs) (put p (bit_xor b x) st)))
        ≡ store ps (xored bs xs) (put p b st)
    by true e =
        pick_true _ _ e
        ∙ store_over p (bit_xor b x) b ps (xored bs xs) st (omega (arith, length_xored bs xs (omega arith))) e
    by false e =
        pick_false _ _ e
        ∙ mend_after p x ps (xored bs xs) (put p (bit_xor b x) st) e
        ∙ ap (store ps (xored bs xs)) (mend_put p b x st)
