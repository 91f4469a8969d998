-- Which record a read takes.
--   take_off       a track that the image has not
--   take_seen      the next record other than R0
--   take_unseen    there is none
--   take_just      the record whose count area was just passed
--   just_spot      where that record stands
--   just_there     it is always there
--   belongs        a record that was sighted is one of the track
--   as_just        by what the code tests
use Rattle.std.specs.Prelude.{Some, None, Option}
use Prim.Native.Nat.{ℕ, ◌-◌, ◌<◌, ◌≤◌}
use native.Mathlib.Omega.{arith}
use mathlib.Core.Path.{◌≡◌, sym, ◌∙◌}
use mathlib.Core.Bool.{Bool, true, false, not, ◌&&◌}
use mathlib.Core.List.{List}
use lib.ListN.{length}
use borrow.Author.Tests.{lt-ltb, le-ltb}
use Rattle.base.specs.Choice.{pick, opt}
use Rattle.pack.specs.declared.Place.{Place}
use Rattle.pack.specs.Pack.{Track, pack_of, track_in}
use Rattle.pack.specs.Places.{record_at, Within}
use Rattle.drive.specs.Drive as Abstract
use Rattle.drive.specs.Drive.{taken, past_zero, turn}
use Rattle.drive.specs.Step as Step
use Rattle.position.specs.declared.Drive.{Drive}
use Rattle.position.specs.declared.Spot.{Spot}
use Rattle.position.specs.Standing.{drive_of, OnTrack, TakesFor, Belongs}
use Rattle.position.specs.Spots.{Spotted, Ahead}
use Rattle.position.proofs.Places.{spot_at, spotted, ended}

module _ (image : List ℕ) (d : Drive) (just datas : Bool) where
  pub take_off : track_in (pack_of image) d.at ≡ None → TakesFor image d just datas None
  unfolding Step.plan_read opt
  take_off h = λ l c st p k _ _. rw h

  module _ (t : Track) (o : OnTrack image d t) where
    -- a read takes what its place on the track names
    takes : (x : Spot) (y : Drive) → Spotted image t x → taken just (drive_of d) (length t.records) ≡ x.place → drive_of y ≡ Abstract.moved_past (drive_of d) x.place (not datas) 0
        → TakesFor image d just datas (Some (x.parts, y))
    unfolding Step.plan_read Step.plan_place Step.plan_record opt pick
    takes x y s e q = λ l c st p k j f. rw (o.there, j, e, lt-ltb _ _ s.inside, s.is, f, ← q)

    misses : length t.records ≤ taken just (drive_of d) (length t.records) → TakesFor image d just datas None
    unfolding Step.plan_read Step.plan_place opt pick
    misses h = λ l c st p k j f. rw (o.there, j, le-ltb _ _ h)

    module _ (e : (just && d.passed) ≡ false) where
      next_taken : taken just (drive_of d) (length t.records) ≡ past_zero (turn (length t.records) d.next)
      unfolding taken pick
      next_taken = rw e

      pub take_seen : (x : Spot) (y : Drive) → Ahead image d (Some x) → drive_of y ≡ Abstract.moved_past (drive_of d) x.place (not datas) 0 → TakesFor image d just datas (Some (x.parts, y))
      take_seen x y a q = let s = a t o in takes x y s.0 (next_taken ∙ sym s.1) q

      pub take_unseen : Ahead image d None → TakesFor image d just datas None
      take_unseen a = misses (rw next_taken (a t o))

module _ (image : List ℕ) (d : Drive) (t : Track) (o : OnTrack image d t) (h : d.passed ≡ true) where
  pub just_spot : (p : Place) → record_at image d.behind ≡ Some p → Within image p → Spotted image t (spot_at (d.next - 1) d.behind p)
  just_spot p g w = let j = o.just h in spotted image t (d.next - 1) d.behind j.2 p j.1 g w

  pub take_just : (datas : Bool) (x : Spot) (y : Drive) → x.place ≡ d.next - 1 → Spotted image t x → drive_of y ≡ Abstract.moved_past (drive_of d) x.place (not datas) 0
      → TakesFor image d true datas (Some (x.parts, y))
  unfolding taken pick
  take_just datas x y e s q = takes image d true datas t o x y s (rw (h, e)) q

  pub just_there : {P : Type 0} → record_at image d.behind ≡ None → P
  just_there g =
      let j = o.just h in
      let e = ended image t (d.next - 1) d.behind j.2 g in
      let w = o.within in
      let n : 0 < d.next = j.0 in
      absurd (omega arith)

pub belongs : (image : List ℕ) (d : Drive) (t : Track) → OnTrack image d t → (x : Spot) → Spotted image t x → Belongs image x.parts
belongs image d t o x s = record { address = d.at; track = t; place = x.place; there = o.there; inside = s.inside; is = s.is }

-- ---- by what the code tests

pub as_just : (image : List ℕ) (d : Drive) (just datas : Bool) (r : Option (Place × Drive)) → just ≡ true → TakesFor image d true datas r → TakesFor image d just datas r
as_just image d just datas r e h = λ l c st p k j f. h l c st p k (j ∙ e) f
