-- What a well formed image says of its pack.
--   same_address      addresses that are found to be the same are equal
--   pack_sound        its tracks are sound
--   track_sound       a track of a well formed image is sound, and has the address that was asked for
--   RecordSays, record-says   the address, number and lengths of a record of a sound track
--   record_apart              no two of its records have the same number
--   number_finds              its numbers find its records
--   records_few               it has at most 256 records
use Rattle.std.specs.Prelude.{Option, Some, None}
use Prim.Native.Nat.{ℕ, zero, suc, ◌+◌, ◌<◌, ◌≤◌}
use native.Mathlib.Omega.{arith}
use mathlib.Core.Path.{◌≡◌, refl, sym, ◌∙◌}
use mathlib.Core.Bool.{true, false, ◌&&◌, not}
use mathlib.Core.List.{List, [], ◌∷◌, map}
use lib.Dec.{eqb, leb}
use lib.ListN.{length, get_or, length-map}
use borrow.Author.Tests.{eqb-true, eq-eqb, ne_eqb, leb-true, not-true}
use Rattle.base.specs.Choice.{pick, opt}
use Rattle.base.proofs.Choice.{split, and_left, and_right}
use Rattle.address.specs.declared.Address.{Address}
use Rattle.address.specs.Order.{same}
use Rattle.pack.specs.Pack.{Record, Track, pack_of, track_in, numbered}
use Rattle.image.specs.Image.{sound_record, member, sound_records, sound_track, follows, sound_tracks, no_records, well_formed_from, well_formed}
use Rattle.image.proofs.Pass.{decodes}
use Rattle.image.proofs.Pigeons.{Without, Apart, Below, few}

pub same_address : (a b : Address) → same a b ≡ true → a ≡ b
unfolding same
same_address a b h =
    let c = eqb-true _ _ (and_left (eqb a.cylinder b.cylinder) _ h) in
    let k = eqb-true _ _ (and_right (eqb a.cylinder b.cylinder) _ h) in
    λ i. record { cylinder = c i; head = k i }

-- ---- tracks

tracks_sound : (last : ℕ) (b : Option Address) (ts : List Track) (a : Address) (t : Track) → sound_tracks last b ts ≡ true → track_in ts a ≡ Some t
    → (sound_track last t ≡ true) × (t.at ≡ a)
unfolding sound_tracks track_in pick
tracks_sound last b [] a t h e = let z : ◌≡◌ {A = ℕ} 0 1 = cc in absurd (omega arith)
tracks_sound last b (u ∷ ts) a t h e =
    let s = and_left (follows b u.at && sound_track last u) (sound_tracks last (Some u.at) ts) h in
    let r = and_right (follows b u.at && sound_track last u) (sound_tracks last (Some u.at) ts) h in
    split (same u.at a)
    (λ q.
    let v : Some u ≡ Some t = rw q at e in
    let w : u ≡ t = cc in
    rw (← w) (and_right (follows b u.at) (sound_track last u) s, same_address u.at a q))
    (λ q. tracks_sound last (Some u.at) ts a t r (rw q at e))

pub pack_sound : (last : ℕ) (s : List ℕ) → well_formed last s ≡ true → sound_tracks last None (pack_of s) ≡ true
unfolding pack_of opt well_formed well_formed_from
pack_sound last s h =
    let d = decodes last s h in
    let w : (no_records d.0.records && sound_tracks last None d.0.tracks) ≡ true = rw d.1 at h in
    rw d.1 (and_right (no_records d.0.records) _ w)

pub track_sound : (last : ℕ) (s : List ℕ) (a : Address) (t : Track) → well_formed last s ≡ true → track_in (pack_of s) a ≡ Some t → (sound_track last t ≡ true) × (t.at ≡ a)
track_sound last s a t h e = tracks_sound last None (pack_of s) a t (pack_sound last s h) e

-- ---- the records of a track

module _ (a : Address) where
  first_sound : (seen : List ℕ) (x : Record) (xs : List Record) → sound_records a seen (x ∷ xs) ≡ true
      → (sound_record a x ≡ true) × (member x.r seen ≡ false) × (sound_records a (x.r ∷ seen) xs ≡ true)
  unfolding sound_records
  first_sound seen x xs h =
      let l = and_left (sound_record a x && not (member x.r seen)) (sound_records a (x.r ∷ seen) xs) h in
      (and_left (sound_record a x) _ l, not-true _ (and_right (sound_record a x) _ l), and_right (sound_record a x && not (member x.r seen)) _ h)

  each_sound : (seen : List ℕ) (xs : List Record) → sound_records a seen xs ≡ true → (j : ℕ) (z : Record) → j < length xs → sound_record a (get_or xs j z) ≡ true
  each_sound seen [] h j z k = absurd (omega arith)
  each_sound seen (x ∷ xs) h zero z k = (first_sound seen x xs h).0
  each_sound seen (x ∷ xs) h (suc j) z k = each_sound (x.r ∷ seen) xs (first_sound seen x xs h).2 j z (omega arith)

  -- no number of the records is among those seen
  unseen : (seen : List ℕ) (q : ℕ) (xs : List Record) → sound_records a seen xs ≡ true → member q seen ≡ true → Without q (map (λ (x : Record). x.r) xs)
  unfolding member pick
  unseen seen q [] h m = tt
  unseen seen q (x ∷ xs) h m =
      let f = first_sound seen x xs h in (
        λ e. let v : false ≡ true = sym f.1 ∙ rw e m in let z : ◌≡◌ {A = ℕ} 0 1 = cc in omega arith,
        unseen (x.r ∷ seen) q xs f.2 (split (eqb x.r q) (λ e. rw e) (λ e. rw e m)),
      )

  apart : (seen : List ℕ) (xs : List Record) → sound_records a seen xs ≡ true → Apart (map (λ (x : Record). x.r) xs)
  unfolding member pick
  apart seen [] h = tt
  apart seen (x ∷ xs) h =
      let f = first_sound seen x xs h in
      (unseen (x.r ∷ seen) x.r xs f.2 (rw (eq-eqb x.r x.r refl)), apart (x.r ∷ seen) xs f.2)

  below : (seen : List ℕ) (xs : List Record) → sound_records a seen xs ≡ true → Below 256 (map (λ (x : Record). x.r) xs)
  unfolding sound_record
  below seen [] h = tt
  below seen (x ∷ xs) h =
      let f = first_sound seen x xs h in
      let l = and_left (same x.at a && leb x.r 255) (leb (length x.key + length x.body) 13030) f.0 in
      let n : x.r ≤ 255 = leb-true _ _ (and_right (same x.at a) _ l) in
      (omega arith, below (x.r ∷ seen) xs f.2)

  pub records_few : (xs : List Record) → sound_records a [] xs ≡ true → length xs ≤ 256
  records_few xs h =
      let n = few 256 (map (λ (x : Record). x.r) xs) (apart [] xs h) (below [] xs h) in
      rw (length-map xs (λ (x : Record). x.r)) at n

  -- what is known of a record of the track
  pub record RecordSays (x : Record) : Type 0 where
    pub at_track : x.at ≡ a
    pub short : length x.key + length x.body ≤ 13030

  pub record_says : (xs : List Record) → sound_records a [] xs ≡ true → (j : ℕ) (z : Record) → j < length xs → RecordSays (get_or xs j z)
  unfolding sound_record
  record_says xs h j z k =
      let x = get_or xs j z in
      let f = each_sound [] xs h j z k in
      let l = and_left (same x.at a && leb x.r 255) (leb (length x.key + length x.body) 13030) f in
      record {
        at_track = same_address x.at a (and_left (same x.at a) (leb x.r 255) l);
        short = leb-true _ _ (and_right (same x.at a && leb x.r 255) _ f);
      }

without_at : (q : ℕ) (xs : List Record) → Without q (map (λ (x : Record). x.r) xs) → (i : ℕ) (z : Record) → i < length xs → (get_or xs i z).r ≡ q → ⊥
without_at q [] w i z k = absurd (omega arith)
without_at q (x ∷ xs) w zero z k = w.0
without_at q (x ∷ xs) w (suc i) z k = without_at q xs w.1 i z (omega arith)

apart_at : (xs : List Record) → Apart (map (λ (x : Record). x.r) xs) → (i j : ℕ) (z : Record) → j < i → i < length xs → (get_or xs i z).r ≡ (get_or xs j z).r → ⊥
apart_at [] w i j z h k = absurd (omega arith)
apart_at (x ∷ xs) w zero j z h k = absurd (omega arith)
apart_at (x ∷ xs) w (suc i) zero z h k = without_at x.r xs w.0 i z (omega arith)
apart_at (x ∷ xs) w (suc i) (suc j) z h k = apart_at xs w.1 i j z (omega arith) (omega arith)

pub record_apart : (a : Address) (xs : List Record) → sound_records a [] xs ≡ true → (i j : ℕ) (z : Record) → j < i → i < length xs → (get_or xs i z).r ≡ (get_or xs j z).r → ⊥
record_apart a xs h i j z = apart_at xs (apart a [] xs h) i j z

numbered_at : (xs : List Record) → Apart (map (λ (x : Record). x.r) xs) → (i : ℕ) (z : Record) → i < length xs → numbered xs (get_or xs i z).r ≡ Some (get_or xs i z)
unfolding numbered pick
numbered_at [] w i z k = absurd (omega arith)
numbered_at (x ∷ xs) w zero z k = rw (eq-eqb x.r x.r refl)
numbered_at (x ∷ xs) w (suc i) z k =
    rw (ne_eqb x.r (get_or xs i z).r (λ e. without_at x.r xs w.0 i z (omega arith) (sym e))) (numbered_at xs w.1 i z (omega arith))

pub number_finds : (a : Address) (xs : List Record) → sound_records a [] xs ≡ true → (i : ℕ) (z : Record) → i < length xs → numbered xs (get_or xs i z).r ≡ Some (get_or xs i z)
number_finds a xs h i z k = numbered_at xs (apart a [] xs h) i z k
