-- The laws that tie places in an image's bytes to the decoded pack.
--   decode_end       behind the last byte there is nothing
--   decode_home      a home address at a place, and what is decoded behind it
--   decode_record    a record at a place, and what is decoded behind it
--   decode_neither   elsewhere the bytes do not decode
--   place_from       a record at a place comes from the field there
--   home_bounds, record_bounds   where they lie
use Rattle.std.specs.Prelude.{Option, Some, None}
use Prim.Native.Nat.{ℕ, ◌+◌, ◌-◌, ◌<◌, ◌≤◌}
use native.Mathlib.Nat.{add-zero}
use native.Mathlib.Omega.{arith}
use mathlib.Core.Path.{◌≡◌, refl, ap, ◌∙◌}
use mathlib.Core.Bool.{true, false, ◌&&◌}
use mathlib.Core.List.{List}
use lib.Dec.{eqb, leb}
use lib.ListN.{length, get_or}
use borrow.Author.Tests.{eqb-true, leb-true}
use Rattle.base.specs.Choice.{pick, opt}
use Rattle.base.specs.Bytes.{be16_at, part}
use Rattle.base.proofs.Choice.{split, found, opt_const, and_left, and_right}
use Rattle.base.proofs.Bytes.{length_part, get_or-part, be16-part, part-part}
use Rattle.fields.specs.declared.Field.{Field}
use Rattle.fields.specs.TaggedAt.{tagged_at}
use Rattle.fields.proofs.Fields.{folded_end, folded_torn, folded_field}
use Rattle.fields.proofs.FieldAt.{bounds}
use Rattle.pack.specs.declared.Home.{Home}
use Rattle.pack.specs.declared.Place.{Place}
use Rattle.pack.specs.Pack.{record_of, home_of, Decoded, led_by_record, led_by_home, led_by, nothing, decode_at}
use Rattle.pack.specs.Places.{is_home, home_in, home_at, is_record, placed, place_in, record_at, record_from}

-- ---- contents that are a part of the bytes

module _ (s : List ℕ) (y : Field) (h : y.start ≤ y.next) (g : y.next ≤ length s) where
  home_of_lem : home_of (part s y.start y.next) ≡ pick (is_home s y) (Some (record { cylinder = be16_at s (y.start + 1); head = get_or s (y.start + 4) 0 })) None
  unfolding home_of is_home pick
  home_of_lem =
      split (eqb (y.next - y.start) 5)
      (λ e.
      let n : y.next - y.start ≡ 5 = eqb-true _ _ e in
      rw (
        length_part s y.start y.next g,
        get_or-part s y.start y.next 0 (omega arith),
        get_or-part s y.start y.next 3 (omega arith),
        get_or-part s y.start y.next 4 (omega arith),
        be16-part s y.start y.next 1 (omega arith),
        add-zero y.start,
      ))
      (λ e. rw (length_part s y.start y.next g, e))

  record_of_lem : record_of (part s y.start y.next) ≡ pick (is_record s y) (Some (record_from s (placed s y))) None
  unfolding record_of is_record record_from placed pick
  record_of_lem =
      split (leb 8 (y.next - y.start))
      (λ e.
      let n : 8 ≤ y.next - y.start = leb-true _ _ e in
      let k = get_or-part s y.start y.next 5 (omega arith) in
      let b = be16-part s y.start y.next 6 (omega arith) in
      split (eqb (y.next - y.start) (8 + get_or s (y.start + 5) 0 + be16_at s (y.start + 6)))
      (λ f.
      let m : y.next - y.start ≡ 8 + get_or s (y.start + 5) 0 + be16_at s (y.start + 6) = eqb-true _ _ f in
      let middle : y.start + (8 + get_or s (y.start + 5) 0) ≡ y.start + 8 + get_or s (y.start + 5) 0 = omega arith in
      let end : y.start + (y.next - y.start) ≡ y.next = omega arith in
      rw (
        length_part s y.start y.next g,
        k,
        b,
        e,
        f,
        be16-part s y.start y.next 0 (omega arith),
        be16-part s y.start y.next 2 (omega arith),
        get_or-part s y.start y.next 4 (omega arith),
        part-part s y.start y.next 8 (8 + get_or s (y.start + 5) 0) (omega arith),
        part-part s y.start y.next (8 + get_or s (y.start + 5) 0) (y.next - y.start) (omega arith),
        middle,
        end,
        add-zero y.start,
      ))
      (λ f. rw (length_part s y.start y.next g, e, k, b, f)))
      (λ e. rw (length_part s y.start y.next g, e))

  -- what a field decodes to, by what stands there
  led : (d : Decoded) → led_by (record { tag = y.tag; contents = part s y.start y.next }) d
      ≡ opt (home_in s y) (opt (place_in s y) None (λ p. Some (led_by_record (record_from s p) d))) (λ a. Some (led_by_home a.at d))
  unfolding led_by home_in place_in pick opt
  led d =
      split (eqb y.tag 1)
      (λ e.
      let two : eqb y.tag 2 ≡ false = rw (eqb-true y.tag 1 e) in
      rw (e, two, home_of_lem) (split (is_home s y) (λ f. rw f) (λ f. rw f)))
      (λ e. rw e (split (eqb y.tag 2) (λ f. rw (f, record_of_lem) (split (is_record s y) (λ g. rw g) (λ g. rw g))) (λ f. rw f)))

-- ---- by places

pub decode_end : (s : List ℕ) (at : ℕ) → length s ≤ at → decode_at s at ≡ Some nothing
unfolding decode_at
decode_end s at h = folded_end led_by nothing s at h

pub decode_torn : (s : List ℕ) (at : ℕ) → at < length s → tagged_at s at ≡ None → decode_at s at ≡ None
unfolding decode_at
decode_torn s at h e = folded_torn led_by nothing s at h e

-- what the field at a place makes of what is decoded behind it
unfoldable pub led_by_at : List ℕ → Field → Decoded → Option Decoded
led_by_at s y d = opt (home_in s y) (opt (place_in s y) None (λ p. Some (led_by_record (record_from s p) d))) (λ a. Some (led_by_home a.at d))

pub decode_field : (s : List ℕ) (at : ℕ) {y : Field} → tagged_at s at ≡ Some y → decode_at s at ≡ opt (decode_at s y.next) None (led_by_at s y)
unfolding decode_at led_by_at
decode_field s at {y} e =
    let b = bounds s at e in
    folded_field led_by nothing s at e ∙ found (decode_at s y.next) refl (led s y b.1 b.2)

-- what is found at a place comes from the field there
home_from : (s : List ℕ) (at : ℕ) (a : Home) → home_at s at ≡ Some a
    → (y : Field) × (tagged_at s at ≡ Some y) × (home_in s y ≡ Some a) × (a.next ≡ y.next)
unfolding home_at home_in pick opt
home_from s at a h = by (tagged_at s at) refl
  where
    by : (f : Option Field) → tagged_at s at ≡ f → (y : Field) × (tagged_at s at ≡ Some y) × (home_in s y ≡ Some a) × (a.next ≡ y.next)
    by None q = let w : ◌≡◌ {A = Option Home} None (Some a) = rw q at h in let z : ◌≡◌ {A = ℕ} 0 1 = cc in absurd (omega arith)
    by (Some y) q =
        let w : home_in s y ≡ Some a = rw q at h in (
          y,
          q,
          w,
          split (eqb y.tag 1 && is_home s y)
              (λ e. let v : ◌≡◌ {A = Option Home} (Some (record { at = record { cylinder = be16_at s (y.start + 1); head = get_or s (y.start + 4) 0 }; next = y.next })) (Some a) = rw e at w in (cc))
              (λ e. let v : ◌≡◌ {A = Option Home} None (Some a) = rw e at w in let z : ◌≡◌ {A = ℕ} 0 1 = cc in absurd (omega arith)),
        )

pub place_from : (s : List ℕ) (at : ℕ) (p : Place) → record_at s at ≡ Some p
    → (y : Field) × (tagged_at s at ≡ Some y) × (place_in s y ≡ Some p) × (eqb y.tag 2 ≡ true) × (is_record s y ≡ true) × (placed s y ≡ p)
unfolding record_at place_in pick opt
place_from s at p h = by (tagged_at s at) refl
  where
    by : (f : Option Field) → tagged_at s at ≡ f
        → (y : Field) × (tagged_at s at ≡ Some y) × (place_in s y ≡ Some p) × (eqb y.tag 2 ≡ true) × (is_record s y ≡ true) × (placed s y ≡ p)
    by None q = let w : ◌≡◌ {A = Option Place} None (Some p) = rw q at h in let z : ◌≡◌ {A = ℕ} 0 1 = cc in absurd (omega arith)
    by (Some y) q =
        let w : place_in s y ≡ Some p = rw q at h in
        split (eqb y.tag 2 && is_record s y)
        (λ e.
        let v : ◌≡◌ {A = Option Place} (Some (placed s y)) (Some p) = rw e at w in
        (y, q, w, and_left (eqb y.tag 2) (is_record s y) e, and_right (eqb y.tag 2) (is_record s y) e, (cc)))
        (λ e. let v : ◌≡◌ {A = Option Place} None (Some p) = rw e at w in let z : ◌≡◌ {A = ℕ} 0 1 = cc in absurd (omega arith))

pub decode_home : (s : List ℕ) (at : ℕ) (a : Home) → home_at s at ≡ Some a → decode_at s at ≡ opt (decode_at s a.next) None (λ d. Some (led_by_home a.at d))
unfolding led_by_at opt
decode_home s at a h =
    let f = home_from s at a h in
    rw f.3 (decode_field s at f.1 ∙ found (decode_at s f.0.next) refl (λ d. rw f.2))

pub home_bounds : (s : List ℕ) (at : ℕ) (a : Home) → home_at s at ≡ Some a → (at < a.next) × (a.next ≤ length s)
home_bounds s at a h =
    let f = home_from s at a h in
    let b = bounds s at f.1 in
    let e = f.3 in
    (omega arith, omega arith)

next_placed : (s : List ℕ) (y : Field) (p : Place) → placed s y ≡ p → y.next ≡ p.next
unfolding placed
next_placed s y p e = ap (λ (q : Place). q.next) e

no_home : (s : List ℕ) (y : Field) → eqb y.tag 2 ≡ true → home_in s y ≡ None
unfolding home_in pick
no_home s y e = let one : eqb y.tag 1 ≡ false = rw (eqb-true y.tag 2 e) in rw one

pub decode_record : (s : List ℕ) (at : ℕ) (p : Place) → record_at s at ≡ Some p
    → decode_at s at ≡ opt (decode_at s p.next) None (λ d. Some (led_by_record (record_from s p) d))
unfolding led_by_at opt
decode_record s at p h =
    let f = place_from s at p h in
    decode_field s at f.1 ∙ found (decode_at s f.0.next) refl (λ d. rw (no_home s f.0 f.3, f.2))
    ∙ ap (λ n. opt (decode_at s n) None (λ d. Some (led_by_record (record_from s p) d))) (next_placed s f.0 p f.5)

-- where a record that was found lies
pub record Lies (s : List ℕ) (at : ℕ) (p : Place) : Type 0 where
  pub behind : at < p.key
  pub in_order : (p.key ≤ p.body) × (p.body ≤ p.next)
  pub inside : p.next ≤ length s

pub record_bounds : (s : List ℕ) (at : ℕ) (p : Place) → record_at s at ≡ Some p → Lies s at p
unfolding placed is_record
record_bounds s at p h =
    let f = place_from s at p h in
    let b = bounds s at f.1 in
    let st = f.0.start in
    let n = next_placed s f.0 p f.5 in
    let k : st + 8 ≡ p.key = ap (λ (q : Place). q.key) f.5 in
    let m : st + 8 + get_or s (st + 5) 0 ≡ p.body = ap (λ (q : Place). q.body) f.5 in
    let long : f.0.next - st ≡ 8 + get_or s (st + 5) 0 + be16_at s (st + 6) = eqb-true _ _ (and_right (leb 8 (f.0.next - st)) _ f.4) in
    record { behind = omega arith; in_order = (omega arith, omega arith); inside = omega arith }

pub decode_neither : (s : List ℕ) (at : ℕ) → at < length s → home_at s at ≡ None → record_at s at ≡ None → decode_at s at ≡ None
unfolding home_at record_at led_by_at opt
decode_neither s at h e g = by (tagged_at s at) refl
  where
    by : (f : Option Field) → tagged_at s at ≡ f → decode_at s at ≡ None
    by None q = decode_torn s at h q
    by (Some y) q =
        let u : home_in s y ≡ None = rw q at e in
        let v : place_in s y ≡ None = rw q at g in
        decode_field s at q ∙ opt_const (decode_at s y.next) (λ d _. rw (u, v))
