-- What the one-pass check promises of its parts. Nothing here is needed to read the definition of question 2.
use Rattle.std.specs.Prelude.{ℕ, ◌-◌, ◌<◌, ◌≤◌, ◌≡◌, Bool, false, ◌&&◌, List, [], ◌∷◌, leb, length, Option, Some, None}
use Rattle.base.specs.Choice.{opt}
use Rattle.address.specs.declared.Address.{Address}
use Rattle.address.specs.Order.{same}
use Rattle.pack.specs.declared.Place.{Place}
use Rattle.pack.specs.Pack.{decode_at}
use Rattle.image.specs.declared.TrackEnd.{TrackEnd}
use Rattle.image.specs.Image.{sound_records, sound_tracks, well_formed_from}

-- the rules of one record, by its places
unfoldable pub fits_in : Address → Place → Bool
fits_in a p = same p.at a && leb (p.next - p.key) 13030

-- whether the bytes from a place on are sound, inside track a and with the numbers seen before them
unfoldable pub sound_inside : ℕ → Address → List ℕ → List ℕ → ℕ → Bool
sound_inside last a seen s at = opt (decode_at s at) false (λ d. sound_records a seen d.records && sound_tracks last (Some a) d.tracks)

-- The records behind R0 are sound up to a place, and the rest decides; or the image is not well formed.
abbrev pub RecordsTell : List ℕ → ℕ → Address → Option ℕ → Type 0
RecordsTell s at a (Some n) = (at ≤ n) × (n ≤ length s) × ((last : ℕ) → sound_inside last a (0 ∷ []) s at ≡ well_formed_from last (Some a) s n)
RecordsTell s at a None = (last : ℕ) → sound_inside last a (0 ∷ []) s at ≡ false

-- The track is sound up to a place, and the rest decides; or the image is not well formed.
abbrev pub TrackTells : ℕ → Option Address → List ℕ → ℕ → Option TrackEnd → Type 0
TrackTells last b s at (Some t) = (at < t.next) × (t.next ≤ length s) × (well_formed_from last b s at ≡ well_formed_from last (Some t.at) s t.next)
TrackTells last b s at None = well_formed_from last b s at ≡ false
