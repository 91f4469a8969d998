-- The next head's track, looked for behind the last record of a track of a sound image.
--   track_none, track_other, track_is    the track whose home address stands at a place
--   ends_at                              where the records of a track from a place on stand and none is found, the track ends
--   next_found                           what the home address there tells of the image
use Rattle.std.specs.Prelude.{Option, Some, None}
use Prim.Native.Nat.{ℕ}
use native.Mathlib.Omega.{arith}
use mathlib.Core.Path.{◌≡◌, refl, ap, sym, ◌∙◌}
use mathlib.Core.Bool.{true, false}
use mathlib.Core.List.{List, [], ◌∷◌, ◌++◌, append_assoc}
use lib.ListN.{length, drop, drop_of_length-le}
use Rattle.base.specs.Choice.{pick, opt}
use Rattle.base.proofs.Choice.{split, pick_true, pick_false}
use Rattle.address.specs.declared.Address.{Address}
use Rattle.address.specs.Order.{same}
use Rattle.pack.specs.declared.Home.{Home}
use Rattle.pack.specs.Pack.{Track, Decoded, led_by_home, decode_at, pack_of, track_in}
use Rattle.pack.specs.Places.{home_at, record_at, TrackFound}
use Rattle.pack.proofs.Lookup.{no_record, next_home, no_home}
use Rattle.image.specs.Image.{sound_tracks}
use Rattle.image.proofs.Sound.{pack_sound, track_sound}
use Rattle.image.proofs.Beyond.{next_head, next_none, next_is}
use Rattle.position.specs.Standing.{StandsAt, Sound}
use Rattle.position.proofs.Image.{pack_is}
use Rattle.heads.specs.Heads.{track_at}

-- ---- a home address

module _ (image : List ℕ) (at : ℕ) (a : Address) where
  pub track_none : home_at image at ≡ None → None ≡ track_at image at a
  unfolding track_at opt
  track_none q = rw q

  module _ (b : Home) (q : home_at image at ≡ Some b) where
    pub track_other : same b.at a ≡ false → None ≡ track_at image at a
    unfolding track_at pick opt
    track_other e = rw (q, e)

    pub track_is : same b.at a ≡ true → Some b.next ≡ track_at image at a
    unfolding track_at pick opt
    track_is e = rw (q, e)

-- ---- behind the last record

all_dropped : (t : Track) → drop (length t.records) t.records ≡ []
all_dropped t = drop_of_length-le t.records {i = length t.records} (omega arith)

pub ends_at : (image : List ℕ) (t : Track) (n at : ℕ) → StandsAt image at t n → record_at image at ≡ None → StandsAt image at t (length t.records)
ends_at image t n at s h = (s.0, s.1, no_record image at s.0 s.1 h ∙ sym (all_dropped t), s.3, s.4)

module _ (image : List ℕ) (w : Sound image) (t : Track) (end : ℕ) (s : StandsAt image end t (length t.records)) where
  -- the next head
  abbrev a : Address
  a = next_head t.at

  -- the tracks of the image, by those behind
  tracks_by : (rest : List Track) → s.0.tracks ≡ rest → (pack_of image ≡ s.3 ++ t ∷ rest) × (sound_tracks w.last None (s.3 ++ t ∷ rest) ≡ true)
  tracks_by rest e =
      let p = s.4 ∙ ap (λ ts. s.3 ++ t ∷ ts) e in
      (p, rw p at (pack_sound w.last image w.formed))

  missing : track_in (pack_of image) a ≡ None → TrackFound image a None
  missing e = λ d h. rw (pack_is image d h) at e

  end_there : home_at image end ≡ None → TrackFound image a None
  end_there q =
      let p = tracks_by [] (no_home image end s.0 s.1 q (s.2 ∙ all_dropped t)) in
      missing (ap (λ ts. track_in ts a) p.0 ∙ next_none w.last None s.3 t p.1)

  module _ (b : Home) (q : home_at image end ≡ Some b) where
    behind : (e : Decoded) × (decode_at image b.next ≡ Some e) × (s.0 ≡ led_by_home b.at e)
    behind = next_home image end s.0 s.1 b q

    abbrev first : Track
    first = record { at = b.at; records = behind.0.records }

    by_first : (pack_of image ≡ s.3 ++ t ∷ first ∷ behind.0.tracks) × (track_in (pack_of image) a ≡ pick (same b.at a) (Some first) None)
    unfolding led_by_home
    by_first =
        let p = tracks_by (first ∷ behind.0.tracks) (ap (λ (d : Decoded). d.tracks) behind.2) in
        (p.0, ap (λ ts. track_in ts a) p.0 ∙ next_is w.last None s.3 t first behind.0.tracks p.1)

    there : same b.at a ≡ true → TrackFound image a (Some b.next)
    there e = λ d h.
        let pack = pack_is image d h in (
          first,
          behind.0,
          ap (λ ts. track_in ts a) (sym pack) ∙ by_first.1 ∙ pick_true (Some first) None e,
          behind.1,
          refl,
          s.3 ++ t ∷ [],
          sym pack ∙ by_first.0 ∙ sym (append_assoc s.3 (t ∷ []) (first ∷ behind.0.tracks)),
        )

    other_there : same b.at a ≡ false → TrackFound image a None
    other_there e = missing (by_first.1 ∙ pick_false (Some first) None e)

  found_behind : TrackFound image a (track_at image end a)
  found_behind = by (home_at image end) refl
    where
      by : (o : Option Home) → home_at image end ≡ o → TrackFound image a (track_at image end a)
      by None q = rw (← (track_none image end a q)) (end_there q)
      by (Some b) q =
          split (same b.at a) (λ e. rw (← (track_is image end a b q e)) (there b q e)) (λ e. rw (← (track_other image end a b q e)) (other_there b q e))

pub next_found : (image : List ℕ) → Sound image → (a : Address) (t : Track) → track_in (pack_of image) a ≡ Some t → (end : ℕ) → StandsAt image end t (length t.records)
    → (r : Option ℕ) → r ≡ track_at image end (next_head a) → TrackFound image (next_head a) r
next_found image w a t h end s r e =
    let at = (track_sound w.last image a t w.formed h).1 in
    rw (e, ← at) (found_behind image w t end s)
