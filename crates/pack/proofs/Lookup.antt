-- Steps through an image that decodes, and what the lookups of a track and a record make of them.
--   next_record, no_record     from a record to the one behind it, and the end of a track
--   next_home, no_home         from a home address to its records, and the end of the tracks
--   TrackHere, TrackOn                  the search for a track at a field: it is its home address, or the search goes on behind it
--   track_here, track_on, no_more       that search, field by field
--   record_here, record_on              the search for a record number
use Rattle.std.specs.Prelude.{Option, Some, None}
use Prim.Native.Nat.{ℕ, ◌<◌}
use native.Mathlib.Omega.{arith}
use mathlib.Core.Path.{◌≡◌, refl, ap, sym, ◌∙◌}
use mathlib.Core.Bool.{true, false}
use mathlib.Core.List.{List, [], ◌∷◌, ◌++◌}
use lib.Dec.{leb}
use lib.ListN.{length}
use borrow.Author.Tests.{eq-eqb, ne_eqb, leb-true, leb-false}
use Rattle.base.specs.Choice.{pick, opt}
use Rattle.base.proofs.Choice.{split, opt_some, some_is}
use Rattle.fields.specs.declared.Field.{Field}
use Rattle.fields.specs.TaggedAt.{tagged_at}
use Rattle.address.specs.declared.Address.{Address}
use Rattle.address.specs.Order.{same}
use Rattle.pack.specs.declared.Home.{Home}
use Rattle.pack.specs.declared.Place.{Place}
use Rattle.pack.specs.Pack.{Track, Decoded, led_by_record, led_by_home, decode_at, track_in, numbered}
use Rattle.pack.specs.Places.{home_in, home_at, is_track, place_in, record_at, record_from}
use Rattle.pack.proofs.Decode.{led_by_at, decode_end, decode_torn, decode_field, decode_home, decode_record, decode_neither}

not_none : {A P : Type 0} {a : A} → None ≡ Some a → P
not_none e = let z : ◌≡◌ {A = ℕ} 0 1 = cc in absurd (omega arith)

-- the track's records stand from a place on, and it is the first of those decoded
abbrev pub TrackHere : List ℕ → Decoded → Address → ℕ → Type 0
TrackHere s d a at =
    (t : Track) × (e : Decoded) × (track_in d.tracks a ≡ Some t) × (decode_at s at ≡ Some e) × (e.records ≡ t.records) × (d.tracks ≡ t ∷ e.tracks)

-- the track is to be found from a place on, behind those passed
abbrev pub TrackOn : List ℕ → Decoded → Address → ℕ → Type 0
TrackOn s d a at =
    (e : Decoded) × (decode_at s at ≡ Some e) × (track_in d.tracks a ≡ track_in e.tracks a) × (front : List Track) × (d.tracks ≡ front ++ e.tracks)

module _ (s : List ℕ) (at : ℕ) (d : Decoded) (h : decode_at s at ≡ Some d) where
  pub next_record : (p : Place) → record_at s at ≡ Some p → (e : Decoded) × (decode_at s p.next ≡ Some e) × (d ≡ led_by_record (record_from s p) e)
  next_record p g =
      let o = opt_some (decode_at s p.next) (λ e. Some (led_by_record (record_from s p) e)) (sym (decode_record s at p g) ∙ h) in
      (o.0, o.1, sym (some_is o.2))

  pub next_home : (a : Home) → home_at s at ≡ Some a → (e : Decoded) × (decode_at s a.next ≡ Some e) × (d ≡ led_by_home a.at e)
  next_home a g =
      let o = opt_some (decode_at s a.next) (λ e. Some (led_by_home a.at e)) (sym (decode_home s at a g) ∙ h) in
      (o.0, o.1, sym (some_is o.2))

  pub no_record : record_at s at ≡ None → d.records ≡ []
  unfolding led_by_home
  no_record g =
      split (leb (length s) at)
      (λ e. ap (λ (x : Decoded). x.records) (some_is (sym h ∙ decode_end s at (leb-true _ _ e))))
      (λ e. by (home_at s at) refl (leb-false (length s) at e))
    where
      by : (o : Option Home) → home_at s at ≡ o → at < length s → d.records ≡ []
      by None q l = not_none (sym (decode_neither s at l q g) ∙ h)
      by (Some a) q l = ap (λ (x : Decoded). x.records) (next_home a q).2

  pub no_home : home_at s at ≡ None → d.records ≡ [] → d.tracks ≡ []
  unfolding led_by_record
  no_home q r =
      split (leb (length s) at)
      (λ e. ap (λ (x : Decoded). x.tracks) (some_is (sym h ∙ decode_end s at (leb-true _ _ e))))
      (λ e. by (record_at s at) refl (leb-false (length s) at e))
    where
      by : (o : Option Place) → record_at s at ≡ o → at < length s → d.tracks ≡ []
      by None g l = not_none (sym (decode_neither s at l q g) ∙ h)
      by (Some p) g l =
          let n = next_record p g in
          let v : record_from s p ∷ n.0.records ≡ [] = ap (λ (x : Decoded). x.records) (sym n.2) ∙ r in
          let z : ◌≡◌ {A = ℕ} 0 1 = cc in
          absurd (omega arith)

  -- a field, with what is decoded behind it
  next_field : {y : Field} → tagged_at s at ≡ Some y → (e : Decoded) × (decode_at s y.next ≡ Some e) × (led_by_at s y e ≡ Some d)
  next_field {y} g = opt_some (decode_at s y.next) (led_by_at s y) (sym (decode_field s at g) ∙ h)

  module _ {y : Field} (g : tagged_at s at ≡ Some y) (a : Address) where
    tracks_of : {e : Decoded} → Some e ≡ Some d → d.tracks ≡ e.tracks
    tracks_of v = ap (λ (x : Decoded). x.tracks) (sym (some_is v))

    tracks_are : {e : Decoded} → Some e ≡ Some d → track_in d.tracks a ≡ track_in e.tracks a
    tracks_are v = ap (λ (ts : List Track). track_in ts a) (tracks_of v)

    pub track_here : is_track s y a ≡ true → TrackHere s d a y.next
    unfolding is_track led_by_at led_by_home track_in pick opt
    track_here i = by (home_in s y) refl
      where
        by : (o : Option Home) → home_in s y ≡ o → TrackHere s d a y.next
        by None q = let w : false ≡ true = rw q at i in let z : ◌≡◌ {A = ℕ} 0 1 = cc in absurd (omega arith)
        by (Some b) q =
            let o = next_field g in
            let w : same b.at a ≡ true = rw q at i in
            let v : Some (led_by_home b.at o.0) ≡ Some d = rw q at o.2 in
            (record { at = b.at; records = o.0.records }, o.0, tracks_are v ∙ rw w, o.1, refl, tracks_of v)

    pub track_on : is_track s y a ≡ false → TrackOn s d a y.next
    unfolding is_track led_by_at led_by_home led_by_record track_in pick opt
    track_on i = by (home_in s y) refl
      where
        record_by : home_in s y ≡ None → (o : Option Place) → place_in s y ≡ o → TrackOn s d a y.next
        record_by q None r = let o = next_field g in let v : None ≡ Some d = rw (q, r) at o.2 in not_none v
        record_by q (Some p) r =
            let o = next_field g in
            let v : Some (led_by_record (record_from s p) o.0) ≡ Some d = rw (q, r) at o.2 in
            (o.0, o.1, tracks_are v, [], tracks_of v)

        by : (o : Option Home) → home_in s y ≡ o → TrackOn s d a y.next
        by None q = record_by q (place_in s y) refl
        by (Some b) q =
            let o = next_field g in
            let w : same b.at a ≡ false = rw q at i in
            let v : Some (led_by_home b.at o.0) ≡ Some d = rw q at o.2 in
            (o.0, o.1, tracks_are v ∙ rw w, record { at = b.at; records = o.0.records } ∷ [], tracks_of v)

-- bytes that decode and have no field at a place end there
pub no_more : (s : List ℕ) (at : ℕ) (d : Decoded) → decode_at s at ≡ Some d → tagged_at s at ≡ None → (a : Address) → track_in d.tracks a ≡ None
unfolding track_in
no_more s at d h g a =
    split (leb (length s) at)
    (λ e. ap (λ (x : Decoded). track_in x.tracks a) (some_is (sym h ∙ decode_end s at (leb-true _ _ e))))
    (λ e. not_none (sym (decode_torn s at (leb-false (length s) at e) g) ∙ h))

module _ (s : List ℕ) (at : ℕ) (d : Decoded) (h : decode_at s at ≡ Some d) (p : Place) (g : record_at s at ≡ Some p) (r : ℕ) where
  pub record_here : p.r ≡ r → numbered d.records r ≡ Some (record_from s p)
  unfolding numbered led_by_record record_from pick
  record_here q =
      let n = next_record s at d h p g in
      ap (λ (x : Decoded). numbered x.records r) n.2 ∙ rw (eq-eqb _ _ q)

  pub record_on : (p.r ≡ r → ⊥) → (e : Decoded) × (decode_at s p.next ≡ Some e) × (numbered d.records r ≡ numbered e.records r)
  unfolding numbered led_by_record record_from pick
  record_on q =
      let n = next_record s at d h p g in
      (n.0, n.1, ap (λ (x : Decoded). numbered x.records r) n.2 ∙ rw (ne_eqb _ _ q))

pub record_none : (s : List ℕ) (at : ℕ) (d : Decoded) → decode_at s at ≡ Some d → record_at s at ≡ None → (r : ℕ) → numbered d.records r ≡ None
unfolding numbered
record_none s at d h g r = rw (no_record s at d h g)
