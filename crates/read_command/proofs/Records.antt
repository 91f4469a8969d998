-- A record that the drive takes, in a well formed image.
--   data_length      its data are as long as its place says
--   bytes_are        the bytes of a read are a part of the image
--   bytes_few        there are few
--   place_low        its track and number fit their bytes
--   faults_inside    a fault that names it lies in the bytes of a read that takes its data
use Rattle.std.specs.Prelude.{Some}
use Prim.Native.Nat.{ℕ, ◌+◌, ◌-◌, ◌≤◌}
use native.Mathlib.Omega.{arith}
use mathlib.Core.Path.{◌≡◌, ap, ap₂, sym, ◌∙◌}
use mathlib.Core.Bool.{true, ◌&&◌}
use mathlib.Core.List.{List, [], ◌++◌}
use lib.ListN.{length, length-append}
use Rattle.base.specs.Choice.{opt}
use Rattle.base.specs.Bytes.{part}
use Rattle.base.proofs.Choice.{and_right}
use Rattle.base.proofs.Bytes.{length_part}
use Rattle.address.specs.declared.Address.{Address}
use Rattle.address.specs.Order.{on_pack}
use Rattle.pack.specs.declared.Place.{Place}
use Rattle.pack.specs.Pack.{Record, Track, pack_of, track_in, numbered, record_in}
use Rattle.pack.specs.Places.{record_from}
use Rattle.image.specs.Image.{zero_first, sound_records, sound_track}
use Rattle.image.proofs.Sound.{track_sound, RecordSays, record_says, number_finds}
use Rattle.faults.specs.Faults.{Fault, naming, sound_faults}
use Rattle.faults.proofs.Naming.{named_sound, Says, says}
use Rattle.drive.specs.declared.Read.{Read}
use Rattle.drive.specs.Drive.{no_record, count_area}
use Rattle.drive.specs.Step.{included, bytes_of}
use Rattle.position.specs.Standing.{Belongs}
use Rattle.read_end.specs.ReadEnd.{PlaceLow}
use Rattle.read_bytes.specs.Bytes.{AreBytes, Counted, from, to, ReadsRecord}
use Rattle.read_bytes.proofs.Counted.{counted}
use Rattle.read_bytes.proofs.Parts.{bytes_part, part_inside, part_short}
use Rattle.read_command.specs.Reads.{Formed, Begun, Lies, FaultsInside}

-- the data are in the bytes of a read that takes them
body_inside : (k : Read) (y : Record) → k.datas ≡ true → length y.body ≤ length (bytes_of k y)
unfolding bytes_of included
body_inside k y h =
    let u = included k.counts (count_area y) ++ included k.keys y.key in
    rw h (let n = length-append u y.body in omega arith)

in_track : (ts : List Track) (a d : Address) (r : ℕ) (t : Track) (z : Record) → a ≡ d → track_in ts d ≡ Some t → numbered t.records r ≡ Some z → record_in ts a r ≡ Some z
unfolding record_in opt
in_track ts a d r t z e h g = rw (e, h) g

module _ (image : List ℕ) (x : Place) (whole : Formed image) (lies : Lies image x) where
  abbrev y : Record
  y = record_from image x

  abbrev b : Belongs image x
  b = lies.belongs

  records_sound : sound_records b.track.at [] b.track.records ≡ true
  unfolding sound_track
  records_sound =
      let t = track_sound _ image b.address b.track whole.1 b.there in
      and_right (on_pack whole.0 b.track.at && zero_first b.track.records) _ t.0

  on_track : b.track.at ≡ b.address
  on_track = (track_sound _ image b.address b.track whole.1 b.there).1

  record_tells : RecordSays b.track.at y
  record_tells = rw b.is at (record_says b.track.at b.track.records records_sound b.place no_record b.inside)

  -- the list's fault for it is one of this record
  there : record_in (pack_of image) y.at y.r ≡ Some y
  there =
      in_track (pack_of image) y.at b.address y.r b.track y (record_tells.at_track ∙ on_track) b.there
      (rw b.is at (number_finds b.track.at b.track.records records_sound b.place no_record b.inside))

  pub data_length : length y.body ≡ x.next - x.body
  unfolding record_from
  data_length = length_part image x.body x.next lies.within.inside

  record_short : (code : ℕ) (k : Read) → ReadsRecord code k → to k x - from k x ≤ 16384
  unfolding record_from
  record_short code k e =
      let w = lies.within in
      let a : length (part image x.key x.body) ≡ x.body - x.key = length_part image x.key x.body (omega (arith, w.body_first, w.inside)) in
      let d : length (part image x.body x.next) ≡ x.next - x.body = length_part image x.body x.next w.inside in
      let s = record_tells.short in
      let n = part_short image x w code k e in
      omega (arith, w.key_first, w.body_first)

  module _ (code : ℕ) (k : Read) (e : ReadsRecord code k) (m n : ℕ) (f : m ≡ from k x) (g : n ≡ to k x) where
    pub bytes_are : AreBytes image → bytes_of k y ≡ part image m n
    bytes_are small = bytes_part image x lies.within (counted image lies.found.0 x lies.found.1) small code k e ∙ ap₂ (part image) (sym f) (sym g)

    pub bytes_few : length (part image m n) ≤ 16384
    bytes_few =
        let i = part_inside image x lies.within code k e in
        let h = record_short code k e in
        let q = length_part image m n (omega (arith, i.0, i.1)) in
        omega arith

  named_inside : (fs : List Fault) (f : Fault) (k : Read) → sound_faults (pack_of image) fs ≡ true → k.datas ≡ true → naming fs x.at x.r ≡ Some f
      → f.displacement ≤ length (bytes_of k y)
  unfolding record_from
  named_inside fs f k sound h e =
      let named = named_sound (pack_of image) fs x.at x.r f sound e in
      let s : Says (pack_of image) f = says (pack_of image) f named.2 in
      let same : Some y ≡ Some s.taken = sym there ∙ ap₂ (record_in (pack_of image)) (sym named.0) (sym named.1) ∙ s.there in
      let is : y ≡ s.taken = cc in
      let n : length y.body ≡ length s.taken.body = ap (λ (q : Record). length q.body) is in
      let i = s.inside in
      let j = body_inside k y h in
      omega arith

pub place_low : (image : List ℕ) (x : Place) → Lies image x → AreBytes image → PlaceLow x
place_low image x lies small =
    let k : Counted image x = counted image lies.found.0 x lies.found.1 in
    let c0 = small k.start in
    let c1 = small (k.start + 1) in
    let h0 = small (k.start + 2) in
    let h1 = small (k.start + 2 + 1) in
    record { cylinder = omega (arith, k.cylinder, c0, c1); head = omega (arith, k.head, h0, h1); number = lies.within.number }

pub faults_inside : (chain program image faults : List ℕ) → (g : Begun chain program image faults) (x : Place) → Lies image x → (k : Read) (n : ℕ) → n ≡ length (bytes_of k (record_from image x))
    → FaultsInside faults k x n
faults_inside chain program image faults g x lies k n e =
    (g.listed.0, g.listed.1, λ f h q. rw e (named_inside image x g.whole lies g.listed.0 f k g.listed.2 h q))
