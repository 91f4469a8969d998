-- A read's data chain retraced, a CCW at a time: ps are the places so far, and the rest of the walk stands behind them.
--   count_fits .. took-count              a CCW that is not the last chains data and takes its count
--   chained_usable                        a CCW that a read may not use ends the walk just as a missing one does
--   retraced_ended, retraced_broken       how it ends at a CCW
--   stayed_on, places_on, walk_on         how it goes on at the next
use Rattle.std.specs.Prelude.{Option, Some, None, Result, Ok, Err}
use Prim.Native.Nat.{ℕ, ◌+◌, ◌-◌, ◌<◌, ◌≤◌}
use native.Mathlib.Omega.{arith}
use mathlib.Core.Path.{◌≡◌, refl, ap, sym, ◌∙◌}
use mathlib.Core.Bool.{Bool, true, false, ◌||◌, not}
use mathlib.Core.List.{List, [], ◌++◌, append-nil}
use lib.Dec.{ltb}
use lib.ListN.{length, length-append}
use borrow.Author.Tests.{ltb-true, ltb-false, le-ltb, not-true, not-false}
use Rattle.base.specs.Choice.{pick}
use Rattle.base.proofs.Choice.{split, never, pick_true, pick_false}
use Rattle.channel.specs.declared.Ccw.{Ccw}
use Rattle.channel.specs.declared.Location.{Location}
use Rattle.channel.specs.Ccw.{Lent, chains_data, next, resolve}
use Rattle.channel.specs.Walk.{Walk, walked, checked, chained, walk, readable}
use Rattle.channel.proofs.Stretch.{walk_out, places_under, behind_places, length_places_under, behind_places_walked, behind_places_checked, behind_places_append, walk_short, walk_chained}
use Rattle.correction.specs.declared.ThreeStayed.{ThreeStayed}
use Rattle.correction.specs.Retraced.{three_stayed_of, retraced, usable, all_passed}
use Rattle.correction.proofs.Final.{all_pass}
use Rattle.correction.specs.declared.End.{End}

abbrev under : Ccw → ℕ → List (Option ℕ)
under c n = places_under c c.address n

-- an end, as the code has it
abbrev ended : Location → Ccw → ℕ → Bool → ThreeStayed → Option End
ended l c left over s = Some (record { at = l; ccw = c; left = left; over = over; stayed = s })

-- the places so far, and those of a stretch, in front of an end
retraced_walked : (k : ℕ) (ps : List (Option ℕ)) (l : Location) (c : Ccw) (n left : ℕ) (over : Bool)
    → retraced k (behind_places ps (behind_places (under c n) (walked [] l c left over))) ≡ ended l c left over (three_stayed_of k (ps ++ under c n))
unfolding retraced
retraced_walked k ps l c n left over =
    ap (λ w. retraced k (behind_places ps w)) (behind_places_walked (under c n) [] l c left over)
    ∙ ap (retraced k) (behind_places_walked ps (under c n ++ []) l c left over)
    ∙ ap (λ qs. ended l c left over (three_stayed_of k (ps ++ qs))) (append-nil (under c n))

retraced_checked : (k : ℕ) (ps qs : List (Option ℕ)) (l : Location) → retraced k (behind_places ps (behind_places qs (checked [] l))) ≡ None
unfolding retraced
retraced_checked k ps qs l =
    ap (λ w. retraced k (behind_places ps w)) (behind_places_checked qs [] l) ∙ ap (retraced k) (behind_places_checked ps (qs ++ []) l)

pub stayed_on : (ps : List (Option ℕ)) (c : Ccw) (from n k : ℕ) (s t : ThreeStayed) → length ps ≡ from → s ≡ three_stayed_of k ps → t ≡ all_passed c from n k s → t ≡ three_stayed_of k (ps ++ under c n)
stayed_on ps c from n k s t e f g = g ∙ ap (all_passed c from n k) f ∙ ap (λ m. all_passed c m n k (three_stayed_of k ps)) (sym e) ∙ sym (all_pass ps c n k)

pub places_on : (ps : List (Option ℕ)) (c : Ccw) (from n : ℕ) → length ps ≡ from → length (ps ++ under c n) ≡ from + n
places_on ps c from n e = length-append ps (under c n) ∙ ap (λ m. length ps + m) (length_places_under c c.address n) ∙ ap (λ m. m + n) e

-- ---- the CCW is not the last

or_first : (a b : Bool) → (a || b) ≡ false → a ≡ false
or_first true b h = h
or_first false b h = refl

or_second : (a b : Bool) → (a || b) ≡ false → b ≡ false
or_second true b h = never (sym h)
or_second false b h = h

module _ (c : Ccw) (more : ℕ) (h : (ltb more c.count || not (chains_data c)) ≡ false) where
  not_short : ltb more c.count ≡ false
  not_short = or_first (ltb more c.count) (not (chains_data c)) h

  pub count_fits : c.count ≤ more
  count_fits = ltb-false more c.count not_short

  pub chains_on : chains_data c ≡ true
  chains_on = not-false _ (or_second (ltb more c.count) (not (chains_data c)) h)

  pub took_count : (took : ℕ) → took ≡ pick (ltb more c.count) more c.count → took ≡ c.count
  took_count took e = e ∙ pick_false _ _ not_short

pub chained_usable : (on : Location → Ccw → ℕ → ℕ → Walk) (size : ℕ) (f : Result (Location × Ccw) Location) → chained on size (usable size f) ≡ chained on size f
unfolding usable chained
chained_usable on size (Err l) = refl
chained_usable on size (Ok (l, c)) =
    split (readable size c) (λ e. ap (chained on size) (pick_true _ _ e)) (λ e. ap (chained on size) (pick_false _ _ e) ∙ sym (pick_false _ _ e))

-- ---- at the CCW c, which takes `took` bytes

module _ (p : Lent) (size n : ℕ) (w : Walk) (ps : List (Option ℕ)) (l : Location) (c : Ccw) (from : ℕ)
    (i : behind_places ps (walk p size (n - from) l c c.count c.address) ≡ w) where
  ended_short : (k : ℕ) → n - from < c.count → ended l c (c.count - (n - from)) false (three_stayed_of k (ps ++ under c (n - from))) ≡ retraced k w
  ended_short k h =
      sym (retraced_walked k ps l c (n - from) (c.count - (n - from)) false)
      ∙ ap (λ v. retraced k (behind_places ps v)) (sym (walk_short p size (n - from) l c c.count c.address h))
      ∙ ap (retraced k) i

  ended_out : (k : ℕ) → c.count ≤ n - from → chains_data c ≡ false → ended l c 0 (ltb c.count (n - from)) (three_stayed_of k (ps ++ under c c.count)) ≡ retraced k w
  ended_out k h d =
      sym (retraced_walked k ps l c c.count 0 (ltb c.count (n - from)))
      ∙ ap (λ v. retraced k (behind_places ps v)) (sym (walk_out p size (n - from) l c c.count c.address h d))
      ∙ ap (retraced k) i

  module _ (took : ℕ) (e : took ≡ pick (ltb (n - from) c.count) (n - from) c.count) where
    pub retraced_ended : (k : ℕ) (t : ThreeStayed) → (ltb (n - from) c.count || not (chains_data c)) ≡ true → t ≡ three_stayed_of k (ps ++ under c took)
        → Some (record { at = l; ccw = c; left = c.count - took; over = ltb took (n - from); stayed = t }) ≡ retraced k w
    retraced_ended k t d g =
        ap (ended l c (c.count - took) (ltb took (n - from))) g
        ∙ split (ltb (n - from) c.count)
        (λ h.
        ap (λ m. ended l c (c.count - m) (ltb m (n - from)) (three_stayed_of k (ps ++ under c m))) (e ∙ pick_true _ _ h)
        ∙ ap (λ b. ended l c (c.count - (n - from)) b (three_stayed_of k (ps ++ under c (n - from)))) (le-ltb (n - from) (n - from) (omega arith))
        ∙ ended_short k (ltb-true _ _ h))
        (λ h.
        let None : c.count - c.count ≡ 0 = omega arith in
        ap (λ m. ended l c (c.count - m) (ltb m (n - from)) (three_stayed_of k (ps ++ under c m))) (e ∙ pick_false _ _ h)
        ∙ ap (λ m. ended l c m (ltb c.count (n - from)) (three_stayed_of k (ps ++ under c c.count))) None
        ∙ ended_out k (ltb-false _ _ h) (not-true _ (rw h at d)))

    module _ (Some : 0 < c.count) (d : (ltb (n - from) c.count || not (chains_data c)) ≡ false) where
      abbrev behind : Result (Location × Ccw) Location → Walk
      behind f = behind_places ps (behind_places (under c c.count) (chained (walk p size (n - from - c.count)) size f))

      chains : behind (usable size (resolve p l (next l))) ≡ w
      chains =
          ap (λ v. behind_places ps (behind_places (under c c.count) v)) (chained_usable (walk p size (n - from - c.count)) size (resolve p l (next l)))
          ∙ ap (behind_places ps) (sym (walk_chained p size (n - from) l c c.count c.address Some (count_fits c (n - from) d) (chains_on c (n - from) d)))
          ∙ i

      pub retraced_broken : (k : ℕ) (x : Location) → Err x ≡ usable size (resolve p l (next l)) → None ≡ retraced k w
      unfolding chained
      retraced_broken k x q = sym (retraced_checked k ps (under c c.count) x) ∙ ap (λ f. retraced k (behind f)) q ∙ ap (retraced k) chains

      pub walk_on : (x : Location) (b : Ccw) → Ok (x, b) ≡ usable size (resolve p l (next l)) → readable size b ≡ true
          → behind_places (ps ++ under c took) (walk p size (n - (from + took)) x b b.count b.address) ≡ w
      unfolding chained
      walk_on x b q g =
          let m : n - (from + c.count) ≡ n - from - c.count = omega arith in
          ap (λ j. behind_places (ps ++ under c j) (walk p size (n - (from + j)) x b b.count b.address)) (took_count c (n - from) d took e)
          ∙ behind_places_append ps (under c c.count) _
          ∙ ap (λ j. behind_places ps (behind_places (under c c.count) (walk p size j x b b.count b.address))) m
          ∙ ap (λ v. behind_places ps (behind_places (under c c.count) v)) (sym (pick_true _ _ g))
          ∙ ap behind q
          ∙ chains
