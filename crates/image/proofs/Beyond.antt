-- The tracks behind a track, in a list of sound tracks.
--   Earlier              the order of tracks, by cylinder and by head
--   sound_behind         those behind a track are sound behind it
--   look_behind          a later track is looked for among those alone
--   next_head            the next head of a cylinder
--   next_none, next_is   its track is the first of those behind, or there is none
use Rattle.std.specs.Prelude.{Option, Some, None}
use Prim.Native.Nat.{ℕ, ◌+◌, ◌<◌}
use native.Mathlib.Omega.{arith}
use mathlib.Core.Path.{◌≡◌, refl, ◌∙◌}
use mathlib.Core.Bool.{true, false, ◌&&◌}
use mathlib.Core.List.{List, [], ◌∷◌, ◌++◌}
use lib.Dec.{eqb, ltb}
use borrow.Author.Tests.{eqb-true, ltb-true}
use Rattle.base.specs.Choice.{pick}
use Rattle.base.proofs.Choice.{split, and_left, and_right}
use Rattle.address.specs.declared.Address.{Address}
use Rattle.address.specs.Order.{same, before}
use Rattle.pack.specs.Pack.{Track, track_in}
use Rattle.image.specs.Image.{sound_track, follows, sound_tracks}

-- ---- the order of tracks

pub data Earlier (a b : Address) : Type 0 where
  lower_cylinder : a.cylinder < b.cylinder → Earlier a b
  lower_head : a.cylinder ≡ b.cylinder → a.head < b.head → Earlier a b

before_is : (a b : Address) → before a b ≡ true → Earlier a b
unfolding before
before_is a b h =
    split (ltb a.cylinder b.cylinder) (λ e. lower_cylinder (ltb-true _ _ e))
    (λ e.
    let k : (eqb a.cylinder b.cylinder && ltb a.head b.head) ≡ true = rw e at h in
    lower_head (eqb-true _ _ (and_left _ _ k)) (ltb-true _ _ (and_right (eqb a.cylinder b.cylinder) _ k)))

earlier_still : {a b c : Address} → Earlier a b → Earlier b c → Earlier a c
earlier_still (lower_cylinder h) (lower_cylinder k) = lower_cylinder (omega arith)
earlier_still (lower_cylinder h) (lower_head e k) = lower_cylinder (omega arith)
earlier_still (lower_head d h) (lower_cylinder k) = lower_cylinder (omega arith)
earlier_still (lower_head d h) (lower_head e k) = lower_head (d ∙ e) (omega arith)

-- addresses that cannot be equal are not of one track
other : (a b : Address) → (a.cylinder ≡ b.cylinder → a.head ≡ b.head → ⊥) → same a b ≡ false
unfolding same
other a b n =
    split (eqb a.cylinder b.cylinder && eqb a.head b.head)
    (λ e. absurd (n (eqb-true _ _ (and_left _ _ e)) (eqb-true _ _ (and_right (eqb a.cylinder b.cylinder) _ e)))) (λ e. e)

earlier_other : (a b : Address) → Earlier a b → same a b ≡ false
earlier_other a b (lower_cylinder h) = other a b (λ c k. omega arith)
earlier_other a b (lower_head e h) = other a b (λ c k. omega arith)

abbrev pub next_head : Address → Address
next_head a = record { cylinder = a.cylinder; head = a.head + 1 }

next_later : (a : Address) → Earlier a (next_head a)
next_later a = lower_head refl (omega arith)

-- no track is between a head and the next one
second_other : (a b c : Address) → Earlier a b → Earlier b c → same c (next_head a) ≡ false
second_other a b c (lower_cylinder h) (lower_cylinder k) = other c (next_head a) (λ x y. omega arith)
second_other a b c (lower_cylinder h) (lower_head e k) = other c (next_head a) (λ x y. omega arith)
second_other a b c (lower_head d h) (lower_cylinder k) = other c (next_head a) (λ x y. omega arith)
second_other a b c (lower_head d h) (lower_head e k) = other c (next_head a) (λ x y. omega arith)

-- ---- sound tracks

module _ (last : ℕ) where
  sound_first : (p : Option Address) (u : Track) (us : List Track) → sound_tracks last p (u ∷ us) ≡ true → (follows p u.at ≡ true) × (sound_tracks last (Some u.at) us ≡ true)
  unfolding sound_tracks
  sound_first p u us h =
      let l = and_left (follows p u.at && sound_track last u) (sound_tracks last (Some u.at) us) h in
      (and_left (follows p u.at) _ l, and_right (follows p u.at && sound_track last u) _ h)

  sound_later : (a : Address) (u : Track) (us : List Track) → sound_tracks last (Some a) (u ∷ us) ≡ true → Earlier a u.at
  unfolding follows
  sound_later a u us h = before_is a u.at (sound_first (Some a) u us h).0

  all_later : (a : Address) (front : List Track) (t : Track) (rest : List Track) → sound_tracks last (Some a) (front ++ t ∷ rest) ≡ true → Earlier a t.at
  all_later a [] t rest h = sound_later a t rest h
  all_later a (u ∷ front) t rest h =
      earlier_still (sound_later a u (front ++ t ∷ rest) h) (all_later u.at front t rest (sound_first (Some a) u (front ++ t ∷ rest) h).1)

  pub sound_behind : (p : Option Address) (front : List Track) (t : Track) (rest : List Track) → sound_tracks last p (front ++ t ∷ rest) ≡ true → sound_tracks last (Some t.at) rest ≡ true
  sound_behind p [] t rest h = (sound_first p t rest h).1
  sound_behind p (u ∷ front) t rest h = sound_behind (Some u.at) front t rest (sound_first p u (front ++ t ∷ rest) h).1

  pub look_behind : (p : Option Address) (front : List Track) (t : Track) (rest : List Track) → sound_tracks last p (front ++ t ∷ rest) ≡ true
      → (a : Address) → Earlier t.at a → track_in (front ++ t ∷ rest) a ≡ track_in rest a
  unfolding track_in pick
  look_behind p [] t rest h a k = rw (earlier_other t.at a k)
  look_behind p (u ∷ front) t rest h a k =
      let f = (sound_first p u (front ++ t ∷ rest) h).1 in
      rw (earlier_other u.at a (earlier_still (all_later u.at front t rest f) k)) (look_behind (Some u.at) front t rest f a k)

  -- behind a later track there is no next head
  next_passed : (a b : Address) (ts : List Track) → Earlier a b → sound_tracks last (Some b) ts ≡ true → track_in ts (next_head a) ≡ None
  unfolding track_in pick
  next_passed a b [] k h = refl
  next_passed a b (u ∷ us) k h =
      let l = sound_later b u us h in
      rw (second_other a b u.at k l) (next_passed a u.at us (earlier_still k l) (sound_first (Some b) u us h).1)

  module _ (p : Option Address) (front : List Track) (t : Track) where
    pub next_none : sound_tracks last p (front ++ t ∷ []) ≡ true → track_in (front ++ t ∷ []) (next_head t.at) ≡ None
    unfolding track_in
    next_none h = look_behind p front t [] h (next_head t.at) (next_later t.at)

    pub next_is : (u : Track) (us : List Track) → sound_tracks last p (front ++ t ∷ u ∷ us) ≡ true
        → track_in (front ++ t ∷ u ∷ us) (next_head t.at) ≡ pick (same u.at (next_head t.at)) (Some u) None
    unfolding track_in pick
    next_is u us h =
        let b = sound_behind p front t (u ∷ us) h in
        look_behind p front t (u ∷ us) h (next_head t.at) (next_later t.at)
        ∙ split (same u.at (next_head t.at)) (λ q. rw q)
        (λ q. rw q (next_passed t.at u.at us (sound_later t.at u us b) (sound_first (Some t.at) u us b).1))
