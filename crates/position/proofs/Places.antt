-- Records of the drive's track by their places in the image.
--   spot_at, spotted                       a record that is found where the records from a place of the track on stand
--   ended                                  where none is found, the track ends
--   behind_of, steps                       the drive behind such a record
--   first_none, second_none, second_seen   the record behind R0
--   here_read                              the one where the drive stands
--   ahead_second, ahead_next               the next one other than R0
use Rattle.std.specs.Prelude.{Option, Some, None}
use Prim.Native.Nat.{ℕ, suc, ◌+◌, ◌-◌, ◌<◌, ◌≤◌}
use native.Mathlib.Omega.{arith}
use native.Mathlib.Numerals.{add-one}
use mathlib.Core.Path.{◌≡◌, refl, ap, sym, ◌∙◌}
use mathlib.Core.Bool.{Bool}
use mathlib.Core.Logic.{⊎_elim, inr}
use mathlib.Core.List.{List, [], ◌∷◌, ◌++◌}
use lib.Dec.{ltb}
use lib.ListN.{length, get_or, drop, length-drop, drop_of_length-le}
use lib.Seq.{drop-cons}
use borrow.Author.Tests.{ltb-true, ltb-false, lt-ltb, le-ltb, ne_eqb}
use Rattle.base.specs.Choice.{pick}
use Rattle.base.proofs.Choice.{split}
use Rattle.pack.specs.declared.Place.{Place}
use Rattle.pack.specs.Pack.{Record, Track, Decoded, led_by_record}
use Rattle.pack.specs.Places.{record_at, record_from, Within, Bounded}
use Rattle.pack.proofs.Decode.{record_bounds}
use Rattle.pack.proofs.Lookup.{next_record, no_record as no_record_lem}
use Rattle.drive.specs.Drive.{turn, past_zero, no_record}
use Rattle.position.specs.declared.Drive.{Drive}
use Rattle.position.specs.declared.Spot.{Spot}
use Rattle.position.specs.Standing.{StandsAt, OnTrack, Standing}
use Rattle.position.specs.Spots.{Spotted, Spots, Second, Here, Ahead}

-- ---- lists from a place on

-- a list that goes on at place n: its element there, and the rest
drop_head : (xs : List Record) (n : ℕ) {x : Record} {rest : List Record} → drop n xs ≡ x ∷ rest → (n < length xs) × (get_or xs n no_record ≡ x) × (drop (n + 1) xs ≡ rest)
drop_head xs n {x} {rest} e =
    split (ltb n (length xs))
    (λ q.
    let h : n < length xs = ltb-true _ _ q in
    let c : get_or xs n no_record ∷ drop (suc n) xs ≡ x ∷ rest = sym (drop-cons xs n no_record h) ∙ e in
    let r : drop (suc n) xs ≡ rest = cc in
    (h, (cc), rw (add-one n) r))
    (λ q.
    let c : [] ≡ x ∷ rest = sym (drop_of_length-le xs (ltb-false n (length xs) q)) ∙ e in
    let z : ◌≡◌ {A = ℕ} 0 1 = cc in
    absurd (omega arith))

-- a list that does not go on
drop_none : (xs : List Record) (n : ℕ) → drop n xs ≡ [] → length xs ≤ n
drop_none xs n e = let h : length (drop n xs) ≡ 0 = rw e in omega (arith, length-drop n xs)

-- ---- a record of a track

abbrev pub spot_at : ℕ → ℕ → Place → Spot
spot_at place start p = record { place = place; start = start; parts = p }

module _ (image : List ℕ) (t : Track) (place start : ℕ) (s : StandsAt image start t place) where
  pub spotted : (p : Place) → place ≤ start → record_at image start ≡ Some p → Within image p → Spotted image t (spot_at place start p)
  unfolding led_by_record
  spotted p near h w =
      let n = next_record image start s.0 s.1 p h in
      let e : drop place t.records ≡ record_from image p ∷ n.0.records = sym s.2 ∙ ap (λ (d : Decoded). d.records) n.2 in
      let g = drop_head t.records place e in
      let b = record_bounds image start p h in
      record {
        stands = s;
        ahead = (n.0, n.1, sym g.2, s.3, s.4 ∙ ap (λ (d : Decoded). s.3 ++ t ∷ d.tracks) n.2);
        is = g.1;
        inside = g.0;
        near = near;
        far = omega (arith, b.behind, b.in_order);
        bounds = w;
        found = h;
      }

  pub ended : record_at image start ≡ None → length t.records ≤ place
  ended h = drop_none t.records place (sym s.2 ∙ no_record_lem image start s.0 s.1 h)

-- ---- behind it

abbrev pub behind_of : Drive → Spot → Bool → ℕ → Drive
behind_of d x passed passes = record {
  at = d.at;
  found = d.found;
  records = d.records;
  next = x.place + 1;
  here = x.parts.next;
  behind = x.start;
  passed = passed;
  passes = passes;
  mask = d.mask;
}

pub steps : (image : List ℕ) (d : Drive) (x : Spot) (passed : Bool) (passes : ℕ) → Standing image d → Spots image d x → passes ≤ 1 → Standing image (behind_of d x passed passes)
steps image d x passed passes s y few =
    let o = y.1 in
    let p = y.2 in
    let place : x.place + 1 - 1 ≡ x.place = omega arith in
    record {
      sound = s.sound;
      low = s.low;
      on = λ _. (
        y.0,
        record {
          there = o.there;
          first = o.first;
          ahead = p.ahead;
          within = omega (arith, p.inside);
          near = omega (arith, p.near, p.far);
          just = λ _. (omega arith, omega (arith, p.near), rw place p.stands);
        },
      );
      off = s.off;
      few = few;
    }

-- ---- the record behind R0, and the next one other than R0

before_zero : (n place : ℕ) → place ≡ 0 → past_zero (turn n place) ≡ 1
unfolding turn past_zero pick
before_zero n place e = rw e (split (ltb 0 n) (λ q. rw q) (λ q. rw q))

past_last : (n place : ℕ) → n ≤ place → past_zero (turn n place) ≡ 1
unfolding turn past_zero pick
past_last n place h = rw (le-ltb _ _ h)

module _ (image : List ℕ) (d : Drive) where
  pub first_none : record_at image d.records ≡ None → Second image d None
  first_none h = λ t o. let e = ended image t 0 d.records o.first h in omega arith

  module _ (zero : Place) (h : record_at image d.records ≡ Some zero) (w : Within image zero) where
    behind_zero : (t : Track) → OnTrack image d t → StandsAt image zero.next t 1
    behind_zero t o = (spotted image t 0 d.records o.first zero (omega arith) h w).ahead

    pub second_none : record_at image zero.next ≡ None → Second image d None
    second_none g = λ t o. ended image t 1 zero.next (behind_zero t o) g

    pub second_seen : (p : Place) → record_at image zero.next ≡ Some p → Within image p → Second image d (Some (spot_at 1 zero.next p))
    second_seen p g v = λ t o.
        let b = record_bounds image d.records zero h in
        (spotted image t 1 zero.next (behind_zero t o) p (omega (arith, b.behind, b.in_order)) g v, refl)

  -- before R0, and behind the last record, the next one other than R0 is the one behind R0
  module _ (r : Option Spot) (s : Second image d r) where
    as_second : ((t : Track) → OnTrack image d t → past_zero (turn (length t.records) d.next) ≡ 1) → Ahead image d r
    as_second e = by r s
      where
        by : (r : Option Spot) → Second image d r → Ahead image d r
        by (Some x) s = λ t o. let g = s t o in (g.0, g.1 ∙ sym (e t o))
        by None s = λ t o. rw (e t o) (s t o)

    ahead_first : d.next ≡ 0 → Ahead image d r
    ahead_first e = as_second (λ t _. before_zero (length t.records) d.next e)

    ahead_last : record_at image d.here ≡ None → Ahead image d r
    ahead_last h = as_second (λ t o. past_last (length t.records) d.next (ended image t d.next d.here o.ahead h))

    pub ahead_second : Here image d None → Ahead image d r
    ahead_second h = ⊎_elim ahead_first ahead_last h

  pub here_read : (r : Option Place) → (d.next ≡ 0 → ⊥) → r ≡ record_at image d.here → Bounded image r → Here image d r
  here_read (Some p) n e w = (n, sym e, w)
  here_read None n e w = inr (sym e)

  pub ahead_next : (p : Place) → (d.next ≡ 0 → ⊥) → record_at image d.here ≡ Some p → Within image p → Ahead image d (Some (spot_at d.next d.here p))
  unfolding turn past_zero pick
  ahead_next p n h w = λ t o.
      let x = spotted image t d.next d.here o.ahead p o.near h w in
      (x, rw (lt-ltb d.next (length t.records) x.inside, ne_eqb d.next 0 n))
