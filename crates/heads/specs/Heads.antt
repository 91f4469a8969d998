-- Places on the way to the next head, as the code looks them up. Nothing here is needed to read where a search or a read reaches.
use Rattle.std.specs.Prelude.{ℕ, ◌≤◌, List, length, Option, Some, None}
use Rattle.base.specs.Choice.{pick, opt}
use Rattle.address.specs.declared.Address.{Address}
use Rattle.address.specs.Order.{same}
use Rattle.pack.specs.Pack.{Track}
use Rattle.pack.specs.Places.{home_at}
use Rattle.drive.specs.Drive.{past_zero}
use Rattle.position.specs.declared.Drive.{Drive}
use Rattle.position.specs.Standing.{StandsAt, OnTrack}

-- the records of a track, if its home address stands at a place
unfoldable pub track_at : List ℕ → ℕ → Address → Option ℕ
track_at s at a = opt (home_at s at) None (λ h. pick (same h.at a) (Some h.next) None)

-- the place behind the last record of the drive's track
abbrev pub TrackEnds : List ℕ → Drive → ℕ → Type 0
TrackEnds image d end = (t : Track) × OnTrack image d t × StandsAt image end t (length t.records)

-- the place from which the records of the drive's track other than R0 come next; at least as many bytes as records lie before it
abbrev pub PastZero : List ℕ → Drive → ℕ → Type 0
PastZero image d at = (t : Track) → OnTrack image d t → StandsAt image at t (past_zero d.next) × (past_zero d.next ≤ at)
