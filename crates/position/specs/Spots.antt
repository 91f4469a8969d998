-- Records of the drive's track, as the code looks them up. Nothing here is needed to read what the methods promise their callers.
use Rattle.std.specs.Prelude.{ℕ, ◌+◌, ◌<◌, ◌≤◌, ◌≡◌, Bool, true, ◌&&◌, ◌⊎◌, List, eqb, length, get_or, Option, Some, None}
use Rattle.base.specs.Choice.{pick}
use Rattle.address.specs.declared.Address.{Address}
use Rattle.address.specs.Order.{same}
use Rattle.pack.specs.declared.Place.{Place}
use Rattle.pack.specs.Pack.{Track, pack_of}
use Rattle.pack.specs.Places.{record_at, record_from, Within}
use Rattle.channel.specs.declared.Ccw.{Ccw}
use Rattle.channel.specs.declared.Location.{Location}
use Rattle.channel.specs.Ccw.{next}
use Rattle.drive.specs.Drive.{turn, past_zero, moved_past, identifier, no_record, same_bytes}
use Rattle.drive.specs.Step.{done, plan_search}
use Rattle.position.specs.declared.Drive.{Drive}
use Rattle.position.specs.declared.Spot.{Spot}
use Rattle.position.specs.declared.Examined.TheVariants.{Passed}
use Rattle.position.specs.Standing.{drive_of, StandsAt, OnTrack, Examines}

-- A record at its place on a track: where its field stands in the image, and what stands behind it.
pub record Spotted (image : List ℕ) (t : Track) (x : Spot) : Type 0 where
  pub stands : StandsAt image x.start t x.place
  pub ahead : StandsAt image x.parts.next t (x.place + 1)
  pub is : get_or t.records x.place no_record ≡ record_from image x.parts
  pub inside : x.place < length t.records
  pub near : x.place ≤ x.start
  pub far : x.start < x.parts.next
  pub bounds : Within image x.parts
  pub found : record_at image x.start ≡ Some x.parts

-- a record of the drive's track
abbrev pub Spots : List ℕ → Drive → Spot → Type 0
Spots image d x = (t : Track) × OnTrack image d t × Spotted image t x

-- ---- for a search

-- whether a record has the address and the number of a search argument
unfoldable pub names : Address → ℕ → Place → Bool
names a r p = same p.at a && eqb p.r r

-- what every search comes to that examines a record, with n index passes up to it
abbrev pub ExaminesAt : List ℕ → Drive → Spot → ℕ → Type 0
ExaminesAt image d x n =
    (l : Location) (c : Ccw) (st g : List ℕ) → plan_search l c (drive_of d) st (pack_of image) g
    ≡ pick (same_bytes g (identifier (record_from image x.parts))) (done l c (drive_of d) st (next (next l)) (moved_past (drive_of d) x.place true 0))
    (done l c (drive_of d) st (next l) (moved_past (drive_of d) x.place true n))

-- the count area that comes next, with the index passes up to it; or no search finds a record
abbrev pub Comes : List ℕ → Drive → Option (Spot × ℕ) → Type 0
Comes image d (Some (x, n)) = Spots image d x × ExaminesAt image d x n × (n ≤ 1)
Comes image d None = (g : List ℕ) → Examines image d g Passed

-- ---- for a read

-- what there is at a place of the drive's track, which the track tells
abbrev pub At : List ℕ → Drive → (Track → ℕ) → Option Spot → Type 0
At image d n (Some x) = (t : Track) → OnTrack image d t → Spotted image t x × (x.place ≡ n t)
At image d n None = (t : Track) → OnTrack image d t → length t.records ≤ n t

-- the record behind R0
abbrev pub Second : List ℕ → Drive → Option Spot → Type 0
Second image d r = At image d (λ t. 1) r

-- the record where the drive stands, unless it is R0
abbrev pub Here : List ℕ → Drive → Option Place → Type 0
Here image d (Some p) = (d.next ≡ 0 → ⊥) × (record_at image d.here ≡ Some p) × Within image p
Here image d None = (d.next ≡ 0) ⊎ (record_at image d.here ≡ None)

-- the next record other than R0
abbrev pub Ahead : List ℕ → Drive → Option Spot → Type 0
Ahead image d r = At image d (λ t. past_zero (turn (length t.records) d.next)) r
