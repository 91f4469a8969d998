-- A command that takes a faulted data area, in a reading that may begin.
--   flag           the faulted data area that the next command takes
--   flags_are      along the faultless run they are the faulted areas of demand 3
--   unflagged      where there is none, the fault list changes nothing
--   Hit, hit       what is known where there is one
use Rattle.std.specs.Prelude.{Option, Some, None}
use Prim.Native.Nat.{ℕ, zero, suc, ◌≤◌, ◌<◌}
use native.Mathlib.Omega.{arith}
use mathlib.Core.Path.{◌≡◌, refl, ap, ap₂, sym, ◌∙◌}
use mathlib.Core.Bool.{true, false, ◌&&◌}
use mathlib.Core.List.{List, [], ◌∷◌}
use lib.Dec.{eqb}
use lib.ListN.{length, get_or}
use borrow.Author.Tests.{eqb-true}
use Rattle.base.specs.Choice.{pick, opt}
use Rattle.base.proofs.Choice.{split, and_left, and_right, some_is}
use Rattle.address.specs.declared.Address.{Address}
use Rattle.address.specs.declared.Extent.{Extent}
use Rattle.address.specs.Model.{last_of}
use Rattle.address.specs.Order.{same, on_pack}
use Rattle.address.specs.Within.{extent_of, within}
use Rattle.pack.specs.Pack.{Record, Track, pack_of, track_in, numbered, record_in}
use Rattle.image.specs.Image.{zero_first, sound_records, sound_track}
use Rattle.image.proofs.Sound.{track_sound, RecordSays, record_says, record_apart, number_finds, records_few}
use Rattle.faults.specs.Faults.{Fault, naming}
use Rattle.faults.proofs.Naming.{named_sound, Says, says, pattern_three}
use Rattle.abstract_machine.specs.Machine.{notes}
use Rattle.abstract_machine.proofs.Notes.{filtered, notes_filtered}
use Rattle.channel.specs.declared.Ccw.{Ccw}
use Rattle.drive.specs.Drive as Drive
use Rattle.drive.specs.Drive.{Drive, no_record}
use Rattle.drive.specs.Step.{State, Setting, Transfer, moves, data_of, plan, step, Area, area_in}
use Rattle.drive.proofs.Steps as Steps
use Rattle.drive.proofs.Origin as Origin
use Rattle.demand_three.specs.Demand.{Lending, setting_of, Begins, all_inside, Named, faulted_ones}

-- ---- flags

abbrev name_of : Area → Named
name_of a = record { at = a.at; r = a.r }

unfoldable pub name_if : Area → Option Named
name_if a = pick a.faulted (Some (record { at = a.at; r = a.r })) None

ones_filtered : (as' : List Area) → filtered name_if as' ≡ faulted_ones as'
unfolding filtered name_if faulted_ones pick opt
ones_filtered [] = refl
ones_filtered (a ∷ rest) = split a.faulted (λ e. rw (e, ones_filtered rest)) (λ e. rw (e, ones_filtered rest))

module _ (fs : List Fault) (w : Setting) where
  unfoldable pub flag : State → Option Named
  flag s = opt (area_in fs (plan w s)) None name_if

  pub flags_are : (n : ℕ) (s : State) → notes (step [] w) flag n s ≡ faulted_ones (notes (step [] w) (λ t. area_in fs (plan w t)) n s)
  unfolding flag
  flags_are n s = notes_filtered (step [] w) (λ t. area_in fs (plan w t)) flag name_if (λ t. refl) n s ∙ ones_filtered (notes (step [] w) (λ t. area_in fs (plan w t)) n s)

  pub unflagged : (s : State) → flag s ≡ None → step fs w s ≡ step [] w s
  unfolding flag name_if opt pick
  unflagged s h = Steps.unnamed fs w s (by (area_in fs (plan w s)) refl)
    where
      by : (o : Option Area) → area_in fs (plan w s) ≡ o → Steps.faulted_in fs (plan w s) ≡ false
      by None q = Steps.faulted_in_none fs (plan w s) q
      by (Some a) q =
          Steps.faulted_in_some fs (plan w s) a q
          ∙ split a.faulted (λ e. let v : ◌≡◌ {A = Option Named} (Some (record { at = a.at; r = a.r })) None = rw (q, e) at h in let z : ◌≡◌ {A = ℕ} 0 1 = cc in absurd (omega arith)) (λ e. e)

  -- a flag comes from a transfer of a record that the list names
  pub flagged : (s : State) (h : Named) → flag s ≡ Some h → (n : Steps.Named fs (plan w s)) × (h ≡ record { at = n.taken.at; r = n.taken.r })
  unfolding flag name_if opt pick
  flagged s h e = by (area_in fs (plan w s)) refl
    where
      by : (o : Option Area) → area_in fs (plan w s) ≡ o → (n : Steps.Named fs (plan w s)) × (h ≡ record { at = n.taken.at; r = n.taken.r })
      by None q = let v : ◌≡◌ {A = Option Named} None (Some h) = rw q at e in let z : ◌≡◌ {A = ℕ} 0 1 = cc in absurd (omega arith)
      by (Some a) q =
          split a.faulted
          (λ u.
          let n = Steps.named fs (plan w s) (Steps.faulted_in_some fs (plan w s) a q ∙ u) in
          let v : ◌≡◌ {A = Option Named} (Some (record { at = a.at; r = a.r })) (Some h) = rw (q, u) at e in
          let m = some_is (sym q ∙ Steps.named_area fs (plan w s) n) in
          (n, sym (some_is v) ∙ ap name_of m))
          (λ u. let v : ◌≡◌ {A = Option Named} None (Some h) = rw (q, u) at e in let z : ◌≡◌ {A = ℕ} 0 1 = cc in absurd (omega arith))

-- ---- in a reading that may begin

-- A command in the state s that takes the faulted data area h: the transfer, its record and fault, where they stand and how large they are.
pub record Hit (g : Lending) (s : State) (h : Named) : Type 0 where
  pub t : Transfer
  pub y : Record
  pub f : Fault
  pub planned : plan (setting_of g) s ≡ moves t
  pub area_is : t.area ≡ data_of y
  pub named : naming g.faults y.at y.r ≡ Some f
  pub name_is : h ≡ record { at = y.at; r = y.r }
  pub from : Origin.From (setting_of g) s t
  pub track : Track
  pub place : ℕ
  pub there : track_in (pack_of g.image) y.at ≡ Some track
  pub reached : Drive
  pub reached_at : reached.at ≡ y.at
  pub after_is : t.after ≡ Drive.moved_past reached place false 0
  pub is_on_pack : on_pack (last_of g.model) y.at ≡ true
  pub below : place < length track.records
  pub few : length track.records ≤ 256
  pub not_zero : 0 < place
  pub own : (j : ℕ) → j < length track.records → (get_or track.records j no_record).at ≡ y.at
  pub this : (get_or track.records place no_record).r ≡ y.r
  pub others : (j : ℕ) → j < place → (get_or track.records j no_record).r ≡ y.r → ⊥
  pub some_way : 1 ≤ f.displacement
  pub in_read : f.displacement ≤ length t.bytes
  pub short : length t.bytes ≤ 13038
  pub three : length f.pattern ≡ 3
  pub inside : within (extent_of g.model g.extent) y.at ≡ true

all_inside_lem : (x : Extent) (fs : List Fault) → all_inside x fs ≡ true → (a : Address) (r : ℕ) (f : Fault) → naming fs a r ≡ Some f → within x f.at ≡ true
unfolding all_inside naming pick
all_inside_lem x [] h a r f e = let z : ◌≡◌ {A = ℕ} 0 1 = cc in absurd (omega arith)
all_inside_lem x (k ∷ fs) h a r f e =
    split (within x k.at)
    (λ q.
    split (same k.at a && eqb k.r r) (λ u. let v : k ≡ f = some_is (rw u at e) in rw (← v) q)
    (λ u. all_inside_lem x fs (rw q at h) a r f (rw u at e)))
    (λ q. let v : false ≡ true = rw q at h in let z : ◌≡◌ {A = ℕ} 0 1 = cc in absurd (omega arith))

-- the parts of a sound track
track_parts : (last : ℕ) (t : Track) → sound_track last t ≡ true → (on_pack last t.at ≡ true) × (zero_first t.records ≡ true) × (sound_records t.at [] t.records ≡ true)
unfolding sound_track
track_parts last t h =
    let l = and_left (on_pack last t.at && zero_first t.records) (sound_records t.at [] t.records) h in
    (and_left (on_pack last t.at) _ l, and_right (on_pack last t.at) _ l, and_right (on_pack last t.at && zero_first t.records) _ h)

-- a record with a number from 1 on is not the first
not_first : (xs : List Record) → zero_first xs ≡ true → (i : ℕ) → 0 < (get_or xs i no_record).r → 0 < i
unfolding zero_first
not_first [] h i k = let v : ◌≡◌ {A = ℕ} 0 1 = cc in absurd (omega arith)
not_first (x ∷ xs) h zero k = let z : x.r ≡ 0 = eqb-true _ _ h in absurd (omega arith)
not_first (x ∷ xs) h (suc i) k = omega arith

module _ (g : Lending) (b : Begins g) (inside : all_inside (extent_of g.model g.extent) g.faults ≡ true) (s : State) where
  abbrev w : Setting
  w = setting_of g

  module _ (t : Transfer) (y : Record) (f : Fault) (named : naming g.faults y.at y.r ≡ Some f) (c : Ccw) (T : Origin.Taken w s c y t.bytes t.after) where
    track_there : track_in (pack_of g.image) T.reached.at ≡ Some T.track
    unfolding setting_of
    track_there = T.track_is

    sound : (sound_track (last_of g.model) T.track ≡ true) × (T.track.at ≡ T.reached.at)
    sound = track_sound (last_of g.model) g.image T.reached.at T.track b.image track_there

    parts : (on_pack (last_of g.model) T.track.at ≡ true) × (zero_first T.track.records ≡ true) × (sound_records T.track.at [] T.track.records ≡ true)
    parts = track_parts (last_of g.model) T.track sound.0

    each : (j : ℕ) → j < length T.track.records → RecordSays T.track.at (get_or T.track.records j no_record)
    each j k = record_says T.track.at T.track.records parts.2 j no_record k

    y_says : RecordSays T.track.at y
    y_says = rw T.record_is at (each T.place T.below)

    at_is : T.reached.at ≡ y.at
    at_is = sym (y_says.at_track ∙ sound.1)

    fault_sound : (f.at ≡ y.at) × (f.r ≡ y.r) × Says (pack_of g.image) f
    fault_sound = let n = named_sound (pack_of g.image) g.faults y.at y.r f b.faults named in (n.0, n.1, says (pack_of g.image) f n.2)

    number_is : (get_or T.track.records T.place no_record).r ≡ y.r
    number_is = ap (λ (x : Record). x.r) T.record_is

    -- the record that question 3 found is the one that is read
    found_is : fault_sound.2.taken ≡ y
    unfolding record_in opt
    found_is =
        let e : record_in (pack_of g.image) y.at y.r ≡ Some fault_sound.2.taken =
        ap₂ (record_in (pack_of g.image)) (sym fault_sound.0) (sym fault_sound.1) ∙ fault_sound.2.there in
        let u : track_in (pack_of g.image) y.at ≡ Some T.track = rw at_is at track_there in
        let n : numbered T.track.records y.r ≡ Some y = rw T.record_is at (number_finds T.track.at T.track.records parts.2 T.place no_record T.below) in
        let v : Some y ≡ Some fault_sound.2.taken = rw (u, n) at e in
        sym (some_is v)

    in_data : f.displacement ≤ length y.body
    in_data = rw found_is at fault_sound.2.inside

    pub hit_by : (h : Named) → plan w s ≡ moves t → t.area ≡ data_of y → h ≡ record { at = y.at; r = y.r } → Origin.From w s t → Hit g s h
    hit_by h planned area_is name_is from = record {
      t = t;
      y = y;
      f = f;
      planned = planned;
      area_is = area_is;
      named = named;
      name_is = name_is;
      from = from;
      track = T.track;
      place = T.place;
      there = rw at_is at track_there;
      reached = T.reached;
      reached_at = at_is;
      after_is = T.after_is;
      is_on_pack = rw (sym y_says.at_track) at parts.0;
      below = T.below;
      few = records_few T.track.at T.track.records parts.2;
      not_zero = not_first T.track.records parts.1 T.place (rw number_is (omega (arith, fault_sound.1, fault_sound.2.from_one)));
      own = λ j k. (each j k).at_track ∙ sym y_says.at_track;
      this = number_is;
      others = λ j k e. record_apart T.track.at T.track.records parts.2 T.place j no_record k T.below (number_is ∙ sym e);
      some_way = fault_sound.2.some_way;
      in_read = omega (arith, in_data, T.body_in);
      short = omega (arith, y_says.short, T.bytes_few);
      three = pattern_three g.fault_list g.faults b.listed y.at y.r f named;
      inside = rw fault_sound.0 at (all_inside_lem (extent_of g.model g.extent) g.faults inside y.at y.r f named);
    }

  pub hit : (h : Named) → flag g.faults w s ≡ Some h → Hit g s h
  hit h e = by (flagged g.faults w s h e).0 (flagged g.faults w s h e).1
    where
      by : (n : Steps.Named g.faults (plan w s)) → h ≡ record { at = n.taken.at; r = n.taken.r } → Hit g s h
      by n q =
          let from = Origin.transfer_from_plan w s n.transfer n.is_moves in
          hit_by n.transfer n.taken n.fault n.fault_named from.ccw (from.data_from n.taken n.is_data) h n.is_moves n.is_data q from
