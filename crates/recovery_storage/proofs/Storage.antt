-- Recovery changes no byte of storage but where a pattern byte of the report stayed: `patches_in_place`.
--   one_place    a pattern byte stays at one place at most, so that these places are three at most
--   unpatched    storage that is as it was
use Rattle.std.specs.Prelude.{Option, Some, None}
use Prim.Native.Nat.{ℕ, zero, suc, ◌+◌, ◌-◌, ◌<◌, ◌≤◌}
use native.Mathlib.Nat.{min-le_left}
use native.Mathlib.Omega.{arith}
use mathlib.Core.Path.{◌≡◌, refl, ap, sym, ◌∙◌}
use mathlib.Core.Logic.{◌≢◌}
use mathlib.Core.Bool.{Bool, true, false, ◌&&◌, not}
use mathlib.Core.List.{List, [], ◌∷◌, ◌++◌}
use lib.Dec.{eqb, ltb, leb}
use lib.ListN.{length, get_or, drop, replicate, length-take, get_or-eq_default}
use lib.Seq.{get_or-set_other, get_or-take}
use borrow.Author.Tests.{eqb-true, eqb-false, eq-eqb, ltb-true, ltb-false, leb-true}
use Rattle.std.proofs.lemmas.Option.{none-some}
use Rattle.base.specs.Bytes.{part}
use Rattle.base.proofs.Choice.{both_if, split, never, some_is, and_left, and_right}
use Rattle.channel.specs.declared.Ccw.{Ccw}
use Rattle.channel.specs.declared.Location.{Location}
use Rattle.channel.specs.Ccw.{fetch_in}
use Rattle.channel.specs.Walk.{walked}
use Rattle.drive.specs.Step.{spread}
use Rattle.recovery.specs.Report.{Report}
use Rattle.recovery.specs.Correct.{mend, same_place, overwritten, corrected}
use Rattle.recovery.specs.Recovery.{Recovery, Given, refused, action_one, action_two, repeats, corrected_only, finished, restarts, five, five_a, less_unit_check, restart_displacement, error_displacement, pattern_from, sensible, correction, retrace, recover}
use Rattle.recovery_storage.specs.Storage.{storage_behind, of_five, corrects, places_of, StayedAt, PatternStayed, Patched, PatchesInPlace}
use Rattle.recovery.proofs.Restored.{length_spread, length_corrected, mend_none, not_here, not_later}
use Rattle.recovery.proofs.Answers.{five_by, recover_by}

-- ---- the correction of a byte where no pattern byte stayed, or 0

module _ (a : ℕ) where
  mend_elsewhere : (q : Option ℕ) (x : ℕ) (st : List ℕ) → q ≢ Some a → get_or (mend q x st) a 0 ≡ get_or st a 0
  unfolding mend
  mend_elsewhere None x st h = refl
  mend_elsewhere (Some b) x st h = get_or-set_other st b a _ 0 (λ e. h (ap Some (sym e)))

  never_later : (ps : List (Option ℕ)) (m : ℕ) → overwritten (Some a) ps ≡ false → get_or ps m None ≢ Some a
  unfolding same_place
  never_later [] m h = none-some a
  never_later (p ∷ ps) zero h = λ e. never (sym (not_here (Some a) p ps h) ∙ ap (same_place (Some a)) e ∙ eq-eqb a a refl)
  never_later (p ∷ ps) (suc m) h = never_later ps m (not_later (Some a) p ps h)

  stays_behind : (p : Option ℕ) (ps : List (Option ℕ)) (j : ℕ) → StayedAt ps j a → StayedAt (p ∷ ps) (suc j) a
  stays_behind p ps j s = record { went = s.went; last = later }
    where
      later : (m : ℕ) → suc j < m → get_or (p ∷ ps) m None ≢ Some a
      later zero h = absurd (omega arith)
      later (suc m) h = s.last m (omega arith)

  stays_first : (p : Option ℕ) (ps : List (Option ℕ)) → p ≡ Some a → overwritten p ps ≡ false → StayedAt (p ∷ ps) 0 a
  stays_first p ps e h = record { went = e; last = later }
    where
      later : (m : ℕ) → 0 < m → get_or (p ∷ ps) m None ≢ Some a
      later zero n = absurd (omega arith)
      later (suc m) n = never_later ps m (ap (λ q. overwritten q ps) (sym e) ∙ h)

  -- by whether the byte went to a
  mend_kept : (p : Option ℕ) (x : ℕ) (st : List ℕ) → (p ≡ Some a → x ≡ 0) → get_or (mend p x st) a 0 ≡ get_or st a 0
  mend_kept p x st h = by p refl
    where
      by : (q : Option ℕ) → p ≡ q → get_or (mend p x st) a 0 ≡ get_or st a 0
      by None e = mend_elsewhere p x st (λ f. none-some a (sym e ∙ f))
      by (Some b) e =
          split (eqb b a)
          (λ t. rw (h (e ∙ ap Some (eqb-true b a t)), mend_none p st))
          (λ t. mend_elsewhere p x st (λ f. eqb-false b a t (some_is (sym e ∙ f))))

  corrected_kept : (ps : List (Option ℕ)) (xs st : List ℕ) → ((j : ℕ) → StayedAt ps j a → get_or xs j 0 ≡ 0) → get_or (corrected ps xs st) a 0 ≡ get_or st a 0
  unfolding corrected
  corrected_kept [] xs st h = refl
  corrected_kept (p ∷ ps) [] st h = refl
  corrected_kept (p ∷ ps) (x ∷ xs) st h =
      corrected_kept ps xs _ (λ j s. h (suc j) (stays_behind p ps j s))
      ∙ both_if (λ (s : List ℕ). get_or s a 0 ≡ get_or st a 0) (overwritten p ps) (λ o. refl) (λ o. mend_kept p x st (λ e. h 0 (stays_first p ps e o)))

-- ---- the pattern, and 0 around it

zeros : (m j : ℕ) → ◌≡◌ {A = ℕ} (get_or (replicate m 0) j 0) 0
zeros zero j = refl
zeros (suc m) zero = refl
zeros (suc m) (suc j) = zeros m j

around : (k m : ℕ) (pattern : List ℕ) (j : ℕ) → (k ≤ j → j < k + length pattern → ⊥) → get_or (replicate k 0 ++ pattern ++ replicate m 0) j 0 ≡ 0
around zero m [] j h = zeros m j
around zero m (x ∷ pattern) zero h = absurd (h (omega arith) (omega arith))
around zero m (x ∷ pattern) (suc j) h = around zero m pattern j (λ from to. h (omega arith) (omega arith))
around (suc k) m pattern zero h = refl
around (suc k) m pattern (suc j) h = around k m pattern j (λ from to. h (omega arith) (omega arith))

spread_inside : (n k : ℕ) (pattern : List ℕ) (j : ℕ) → j < n → (k ≤ j → j < k + length pattern → ⊥) → get_or (spread n k pattern) j 0 ≡ 0
unfolding spread
spread_inside n k pattern j i h = get_or-take n _ j 0 i ∙ around k n pattern j h

spread_around : (n k : ℕ) (pattern : List ℕ) (j : ℕ) → (k ≤ j → j < k + length pattern → j < n → ⊥) → get_or (spread n k pattern) j 0 ≡ 0
spread_around n k pattern j h =
    split (ltb j n) (λ t. let i : j < n = ltb-true j n t in spread_inside n k pattern j i (λ from to. h from to i))
    (λ t. get_or-eq_default (spread n k pattern) 0 (omega (arith, length_spread n k pattern, ltb-false j n t)))

-- ---- recovery

length_part_most : (s : List ℕ) (a e : ℕ) → length (part s a e) ≤ e - a
unfolding part
length_part_most s a e = rw (length-take (e - a) (drop a s)) (min-le_left (e - a) (length (drop a s)))

error_in_restart : (sense : List ℕ) → sensible sense ≡ true → error_displacement sense ≤ restart_displacement sense
unfolding sensible
error_in_restart sense h =
    leb-true _ _ (and_right (not (eqb (error_displacement sense) 0) && leb (restart_displacement sense) 13038) _ (and_left _ _ h))

pub one_place : (g : Given) (r : Report) (st : List ℕ) (a b : ℕ) (s : PatternStayed g r st a) (t : PatternStayed g r st b) → s.which ≡ t.which → a ≡ b
one_place g r st a b s t e = some_is cc

pub unpatched : (Place : ℕ → Type 0) (b : Bool) (st after : List ℕ) → after ≡ st → Patched Place b st after
unpatched Place b st after e = record { as_long = ap length e; kept = λ a h. ap (λ (s : List ℕ). get_or s a 0) e; untouched = λ n. e }

module _ (g : Given) (r : Report) (st : List ℕ) where
  abbrev Keeps : Recovery → Type 0
  Keeps q = Patched (PatternStayed g r st) (corrects q) st (storage_behind q st)

  as_it_was : (q : Recovery) → storage_behind q st ≡ st → Keeps q
  as_it_was q e = unpatched (PatternStayed g r st) (corrects q) st (storage_behind q st) e

  module _ (c : Ccw) (first : fetch_in g.chain r.first ≡ Some c) (ok : sensible r.sense ≡ true) (ps : List (Option ℕ)) (l : Location) (d : Ccw) (left : ℕ) (over : Bool)
      (w : retrace g r st c ≡ walked ps l d left over) where
    correction_kept : (a : ℕ) → (PatternStayed g r st a → ⊥) → get_or (correction r.sense ps st) a 0 ≡ get_or st a 0
    unfolding correction places_of
    correction_kept a h =
        corrected_kept a ps _ st
        (λ j s.
        spread_around _ _ _ j
        (λ from to in_read.
        let back : pattern_from r.sense + (j - pattern_from r.sense) ≡ j = omega arith in
        h (record {
          which = j - pattern_from r.sense;
          of_three = omega (arith, length_part_most r.sense 20 23);
          below = omega (arith, error_in_restart r.sense ok);
          ccw = c;
          first = first;
          stayed = rw (w, back) s;
        })))

    correction_keeps : (q : Recovery) → corrects q ≡ true → storage_behind q st ≡ correction r.sense ps st → Keeps q
    unfolding correction
    correction_keeps q t e = record {
      as_long = ap length e ∙ length_corrected ps _ st;
      kept = λ a h. ap (λ (s : List ℕ). get_or s a 0) e ∙ correction_kept a h;
      untouched = λ n. never (sym n ∙ t);
    }

  patches : Keeps (recover g r st)
  unfolding storage_behind corrects of_five
  patches =
      recover_by Keeps g r st (λ q. as_it_was (refused q) refl) (as_it_was action_two refl) (as_it_was action_one refl) (as_it_was repeats refl)
      (λ k p a. as_it_was (restarts k p a st) refl)
      (five_by Keeps g r st (λ q. as_it_was (refused q) refl) (as_it_was action_two refl)
      (λ c first ok ps l d left over w.
      let keeps = correction_keeps c first ok ps l d left over w in
      record {
        only = keeps (corrected_only _) refl refl;
        finishing = keeps (finished (less_unit_check r.csw) _) refl refl;
        by_five = λ p a. keeps (restarts five p a _) refl refl;
        by_five_a = λ p a. keeps (restarts five_a p a _) refl refl;
      }))

pub patches_in_place : PatchesInPlace
patches_in_place = patches
