-- The drive's state as the code keeps it: with places in the image's bytes beside the places on the track.
use Rattle.std.specs.Prelude.{ℕ, ◌-◌, ◌<◌, ◌≤◌, ◌≡◌, Bool, true, false, List, ◌∷◌, ◌++◌, length, get_or, drop, Some, None, Option}
use Rattle.address.specs.declared.Address.{Address}
use Rattle.pack.specs.Pack.{Track, Decoded, decode_at, pack_of, track_in}
use Rattle.pack.specs.declared.Place.{Place}
use Rattle.pack.specs.Places.{record_at, record_from, Within}
use Rattle.image.specs.Image.{well_formed}
use Rattle.channel.specs.declared.Ccw.{Ccw}
use Rattle.channel.specs.declared.Location.{Location}
use Rattle.channel.specs.Ccw.{Lent, next}
use Rattle.drive.specs.declared.Read.{Read}
use Rattle.drive.specs.Drive as Abstract
use Rattle.drive.specs.Step.{Plan, not_found, refuse, done, plan_search, plan_transfer, bytes_of, area_of, plan_read}
use Rattle.position.specs.declared.Drive.{Drive}
use Rattle.position.specs.declared.Examined.{Examined}
use Rattle.position.specs.declared.Examined.TheVariants.{Equal, Unequal, Passed}

-- the state that the definitions speak of
abbrev pub drive_of : Drive → Abstract.Drive
drive_of d = record { at = d.at; next = d.next; passed = d.passed; passes = d.passes; mask = d.mask }

-- From a place in the image on stand the records of a track, from its place n on, and then the tracks behind it.
abbrev pub StandsAt : List ℕ → ℕ → Track → ℕ → Type 0
StandsAt image at t n =
    (e : Decoded) × (decode_at image at ≡ Some e) × (e.records ≡ drop n t.records) × (front : List Track) × (pack_of image ≡ front ++ t ∷ e.tracks)

-- A well formed image, on a pack with some last cylinder.
pub record Sound (image : List ℕ) : Type 0 where
  pub last : ℕ
  pub formed : well_formed last image ≡ true

-- The drive is on a track of the image: where its records begin, where the count area that comes next stands, and where the one
-- that was just passed. At least as many bytes as records lie before them, so that places on the track fit where places in the image do.
pub record OnTrack (image : List ℕ) (d : Drive) (t : Track) : Type 0 where
  pub there : track_in (pack_of image) d.at ≡ Some t
  pub first : StandsAt image d.records t 0
  pub ahead : StandsAt image d.here t d.next
  pub within : d.next ≤ length t.records
  pub near : d.next ≤ d.here
  pub just : d.passed ≡ true → (0 < d.next) × (d.next - 1 ≤ d.behind) × StandsAt image d.behind t (d.next - 1)

-- A drive in a sound image.
pub record Standing (image : List ℕ) (d : Drive) : Type 0 where
  pub sound : Sound image
  pub low : (d.at.cylinder < 65536) × (d.at.head < 65536)
  pub on : d.found ≡ true → (t : Track) × OnTrack image d t
  pub off : d.found ≡ false → track_in (pack_of image) d.at ≡ None
  pub few : d.passes ≤ 1

-- ---- what the methods answer

-- the plan that a search comes to
abbrev pub search_plan : Location → Ccw → Abstract.Drive → List ℕ → Examined → Plan
search_plan l c d st (Equal e) = done l c d st (next (next l)) (drive_of e)
search_plan l c d st (Unequal e) = done l c d st (next l) (drive_of e)
search_plan l c d st Passed = refuse l c d st not_found

-- for every CCW and storage
abbrev pub Examines : List ℕ → Drive → List ℕ → Examined → Type 0
Examines image d g r = (l : Location) (c : Ccw) (st : List ℕ) → plan_search l c (drive_of d) st (pack_of image) g ≡ search_plan l c (drive_of d) st r

-- behind a search that examined a count area the drive stands in the image
abbrev pub ExaminedStands : List ℕ → Examined → Type 0
ExaminedStands image (Equal e) = Standing image e
ExaminedStands image (Unequal e) = Standing image e
ExaminedStands image Passed = Unit {0}

-- the plan that a read comes to, of the record at a place in the image
abbrev pub read_plan : Location → Ccw → Abstract.Drive → List ℕ → Lent → Read → List ℕ → Option (Place × Drive) → Plan
read_plan l c d st p k image (Some (x, e)) = plan_transfer l c d st p (bytes_of k (record_from image x)) (area_of k (record_from image x)) (drive_of e)
read_plan l c d st p k image None = refuse l c d st not_found

-- for every CCW, storage, lent areas and read that takes its record so
abbrev pub TakesFor : List ℕ → Drive → Bool → Bool → Option (Place × Drive) → Type 0
TakesFor image d just datas r =
    (l : Location) (c : Ccw) (st : List ℕ) (p : Lent) (k : Read) → k.just ≡ just → k.datas ≡ datas
    → plan_read l c (drive_of d) st (pack_of image) p k ≡ read_plan l c (drive_of d) st p k image r

-- a place in the image is that of a record of a track
pub record Belongs (image : List ℕ) (x : Place) : Type 0 where
  pub address : Address
  pub track : Track
  pub place : ℕ
  pub there : track_in (pack_of image) address ≡ Some track
  pub inside : place < length track.records
  pub is : get_or track.records place Abstract.no_record ≡ record_from image x

-- the drive behind a record, where that record lies and was found, and whose it is
abbrev pub TakenStands : List ℕ → Option (Place × Drive) → Type 0
TakenStands image (Some (x, e)) = Standing image e × Within image x × ((at : ℕ) × (record_at image at ≡ Some x)) × Belongs image x
TakenStands image None = Unit {0}
