-- One record, one track: what each test of the pass tells of the whole check.
use Rattle.std.specs.Prelude.{Option, Some, None}
use Prim.Native.Nat.{ℕ, ◌+◌, ◌-◌, ◌<◌, ◌≤◌}
use native.Mathlib.Omega.{arith}
use mathlib.Core.Path.{◌≡◌, refl, ap, ◌∙◌}
use mathlib.Core.Bool.{Bool, true, false, ◌&&◌}
use mathlib.Core.List.{List, [], ◌∷◌}
use lib.Dec.{eqb, leb}
use lib.ListN.{length}
use borrow.Author.Tests.{eq-eqb, ne_eqb, le-leb}
use Rattle.base.specs.Choice.{opt}
use Rattle.base.proofs.Choice.{found, found_if, opt_opt, opt_const, and_true}
use Rattle.base.proofs.Bytes.{length_part}
use Rattle.address.specs.declared.Address.{Address}
use Rattle.address.specs.Order.{same, on_pack}
use Rattle.pack.specs.declared.Home.{Home}
use Rattle.pack.specs.declared.Place.{Place}
use Rattle.pack.specs.Pack.{Decoded, led_by_record, led_by_home, decode_at}
use Rattle.pack.specs.Places.{home_at, record_at, record_from}
use Rattle.pack.proofs.Decode.{decode_end, decode_home, decode_record, decode_neither, Lies, record_bounds}
use Rattle.pack.proofs.Lookup.{next_record, no_record}
use Rattle.image.specs.Image.{sound_record, member, zero_first, sound_records, sound_track, follows, sound_tracks, no_records, well_formed_from, well_formed}
use Rattle.image.specs.Pass.{fits_in, sound_inside}

sound_record_lem : (s : List ℕ) (at : ℕ) (a : Address) (p : Place) → Lies s at p → p.r < 256 → sound_record a (record_from s p) ≡ fits_in a p
unfolding sound_record fits_in record_from
sound_record_lem s at a p l b =
    let i = l.inside in
    let o = l.in_order in
    let n : p.body - p.key + (p.next - p.body) ≡ p.next - p.key = omega arith in
    rw (length_part s p.key p.body (omega arith), length_part s p.body p.next i, n, le-leb p.r 255 (omega arith), and_true (same p.at a))

module _ (last : ℕ) (a : Address) (seen s : List ℕ) (at : ℕ) where
  -- ---- no record: the track ends
  pub inside_end : record_at s at ≡ None → sound_inside last a seen s at ≡ well_formed_from last (Some a) s at
  unfolding sound_inside well_formed_from sound_records no_records
  inside_end e = found_if (decode_at s at) refl (λ d h. rw (no_record s at d h e))

  -- ---- a record
  module _ (p : Place) (e : record_at s at ≡ Some p) (small : p.r < 256) where
    inside : Decoded → Bool
    inside d = sound_records a seen (record_from s p ∷ d.records) && sound_tracks last (Some a) d.tracks

    inside_record : sound_inside last a seen s at ≡ opt (decode_at s p.next) false inside
    unfolding sound_inside opt led_by_record inside
    inside_record =
        rw (
          decode_record s at p e,
          opt_opt (decode_at s p.next) (λ d. Some (led_by_record (record_from s p) d)) false
              (λ d. sound_records a seen d.records && sound_tracks last (Some a) d.tracks),
        )

    pub inside_unfit : fits_in a p ≡ false → sound_inside last a seen s at ≡ false
    unfolding inside sound_records
    inside_unfit f = inside_record ∙ opt_const (decode_at s p.next) (λ d _. rw (sound_record_lem s at a p (record_bounds s at p e) small, f))

    pub inside_again : fits_in a p ≡ true → member p.r seen ≡ true → sound_inside last a seen s at ≡ false
    unfolding inside sound_records record_from
    inside_again f g = inside_record ∙ opt_const (decode_at s p.next) (λ d _. rw (sound_record_lem s at a p (record_bounds s at p e) small, f, g))

    pub inside_on : fits_in a p ≡ true → member p.r seen ≡ false → sound_inside last a seen s at ≡ sound_inside last a (p.r ∷ seen) s p.next
    unfolding inside sound_records sound_inside record_from
    inside_on f g = inside_record ∙ found (decode_at s p.next) refl (λ d. rw (sound_record_lem s at a p (record_bounds s at p e) small, f, g))

-- ---- a track

module _ (last : ℕ) (b : Option Address) (s : List ℕ) (at : ℕ) where
  -- what stands at a place inside the image is no home address
  pub track_none : at < length s → home_at s at ≡ None → well_formed_from last b s at ≡ false
  unfolding well_formed_from no_records led_by_record opt
  track_none h e = by (record_at s at) refl
    where
      by : (x : Option Place) → record_at s at ≡ x → well_formed_from last b s at ≡ false
      by None q = rw (decode_neither s at h e q)
      by (Some p) q = opt_const (decode_at s at) (λ d g. rw (next_record s at d g p q).2)

  module _ (home : Home) (e : home_at s at ≡ Some home) where
    led : Decoded → Bool
    led d = follows b home.at && sound_track last (record { at = home.at; records = d.records }) && sound_tracks last (Some home.at) d.tracks

    track_led : well_formed_from last b s at ≡ opt (decode_at s home.next) false led
    unfolding well_formed_from opt led_by_home led no_records sound_tracks
    track_led =
        rw (
          decode_home s at home e,
          opt_opt (decode_at s home.next) (λ d. Some (led_by_home home.at d)) false (λ d. no_records d.records && sound_tracks last b d.tracks),
        )

    pub track_descends : follows b home.at ≡ false → well_formed_from last b s at ≡ false
    unfolding led
    track_descends f = track_led ∙ opt_const (decode_at s home.next) (λ d _. rw f)

    module _ (f : follows b home.at ≡ true) where
      pub track_off : on_pack last home.at ≡ false → well_formed_from last b s at ≡ false
      unfolding led sound_track
      track_off g = track_led ∙ opt_const (decode_at s home.next) (λ d _. rw (f, g))

      module _ (g : on_pack last home.at ≡ true) where
        pub track_empty : record_at s home.next ≡ None → well_formed_from last b s at ≡ false
        unfolding led sound_track zero_first
        track_empty r = track_led ∙ opt_const (decode_at s home.next) (λ d h. rw (f, g, no_record s home.next d h r))

        module _ (p : Place) (r : record_at s home.next ≡ Some p) where
          first_is : (d : Decoded) → decode_at s home.next ≡ Some d → zero_first d.records ≡ eqb p.r 0
          unfolding zero_first led_by_record record_from
          first_is d h = ap (λ (x : Decoded). zero_first x.records) (next_record s home.next d h p r).2

          pub track_unzero : (p.r ≡ 0 → ⊥) → well_formed_from last b s at ≡ false
          unfolding led sound_track
          track_unzero z = track_led ∙ opt_const (decode_at s home.next) (λ d h. rw (f, g, first_is d h, ne_eqb p.r 0 z))

          module _ (z : p.r ≡ 0) where
            track_zero : well_formed_from last b s at ≡ sound_inside last home.at [] s home.next
            unfolding led sound_track sound_inside
            track_zero = track_led ∙ found_if (decode_at s home.next) refl (λ d h. rw (f, g, first_is d h, eq-eqb p.r 0 z))

            pub track_unfit : fits_in home.at p ≡ false → well_formed_from last b s at ≡ false
            track_unfit q = track_zero ∙ inside_unfit last home.at [] s home.next p r (rw z (omega arith)) q

            pub track_on : fits_in home.at p ≡ true → well_formed_from last b s at ≡ sound_inside last home.at (0 ∷ []) s p.next
            unfolding member
            track_on q = track_zero ∙ inside_on last home.at [] s home.next p r (rw z (omega arith)) q refl ∙ ap (λ k. sound_inside last home.at (k ∷ []) s p.next) z

pub all_sound : (last : ℕ) (b : Option Address) (s : List ℕ) (at : ℕ) → length s ≤ at → well_formed_from last b s at ≡ true
unfolding well_formed_from opt no_records sound_tracks
all_sound last b s at h = rw (decode_end s at h)

-- a well formed image decodes
pub decodes : (last : ℕ) (s : List ℕ) → well_formed last s ≡ true → (d : Decoded) × (decode_at s 0 ≡ Some d)
unfolding well_formed well_formed_from opt
decodes last s h = by (decode_at s 0) refl
  where
    by : (o : Option Decoded) → decode_at s 0 ≡ o → (d : Decoded) × (decode_at s 0 ≡ Some d)
    by None q = let w : false ≡ true = rw q at h in let z : ◌≡◌ {A = ℕ} 0 1 = cc in absurd (omega arith)
    by (Some d) q = (d, q)

-- ---- what the test of one record answers
module _ (a : Address) (p : Place) where
  pub other_track : same p.at a ≡ false → false ≡ fits_in a p
  unfolding fits_in
  other_track e = rw e

  pub same_track : same p.at a ≡ true → leb (p.next - p.key) 13030 ≡ fits_in a p
  unfolding fits_in
  same_track e = rw e
