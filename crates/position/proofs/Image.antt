-- Images by their tracks.
--   pack_is           the pack of an image that decodes
--   sound             a well formed image is sound
--   decoded, begun    a sound image decodes, and each of its tracks has a first record
use Rattle.std.specs.Prelude.{Some}
use Prim.Native.Nat.{ℕ, ◌<◌}
use native.Mathlib.Omega.{arith}
use mathlib.Core.Path.{◌≡◌}
use mathlib.Core.Bool.{true, ◌&&◌}
use mathlib.Core.List.{List, [], ◌∷◌}
use lib.ListN.{length}
use Rattle.base.specs.Choice.{opt}
use Rattle.base.proofs.Choice.{and_left, and_right}
use Rattle.address.specs.declared.Address.{Address}
use Rattle.address.specs.Order.{on_pack}
use Rattle.pack.specs.Pack.{Record, Track, Decoded, decode_at, pack_of, track_in}
use Rattle.image.specs.Image.{zero_first, sound_records, sound_track, well_formed}
use Rattle.image.proofs.Pass.{decodes}
use Rattle.image.proofs.Sound.{track_sound}
use Rattle.position.specs.Standing.{Sound}

pub pack_is : (image : List ℕ) (d : Decoded) → decode_at image 0 ≡ Some d → pack_of image ≡ d.tracks
unfolding pack_of opt
pack_is image d h = rw h

-- R0 is there
zero_there : (xs : List Record) → zero_first xs ≡ true → 0 < length xs
unfolding zero_first
zero_there [] h = let z : ◌≡◌ {A = ℕ} 0 1 = cc in absurd (omega arith)
zero_there (x ∷ xs) h = omega arith

track_begun : (last : ℕ) (t : Track) → sound_track last t ≡ true → 0 < length t.records
unfolding sound_track
track_begun last t h =
    let front = and_left (on_pack last t.at && zero_first t.records) (sound_records t.at [] t.records) h in
    zero_there t.records (and_right (on_pack last t.at) (zero_first t.records) front)

pub sound : (last : ℕ) (image : List ℕ) → well_formed last image ≡ true → Sound image
sound last image h = record { last = last; formed = h }

pub decoded : {image : List ℕ} → Sound image → (d : Decoded) × (decode_at image 0 ≡ Some d)
decoded {image} w = decodes w.last image w.formed

pub begun : {image : List ℕ} → Sound image → (a : Address) (t : Track) → track_in (pack_of image) a ≡ Some t → 0 < length t.records
begun {image} w a t e = track_begun w.last t (track_sound w.last image a t w.formed e).0
