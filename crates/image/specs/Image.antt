-- Question 2: "Is the image well formed?" (document 01, "Tagged fields", "Image"), and the image check's answer.
-- The last cylinder is a parameter.
use Rattle.std.specs.Prelude.{ℕ, ◌+◌, Bool, true, false, ◌&&◌, not, List, [], ◌∷◌, eqb, leb, length, Option, Some, None, Result, Ok, Err}
use Rattle.base.specs.Choice.{pick, opt}
use Rattle.questions.specs.Areas.{image_fits}
use Rattle.address.specs.declared.Address.{Address}
use Rattle.address.specs.declared.Model.{Model}
use Rattle.address.specs.Model.{last_of}
use Rattle.address.specs.Order.{same, before, on_pack}
use Rattle.pack.specs.Pack.{Record, Track, decode_at}
use Rattle.questions.specs.declared.Question.{Question}

-- ---- one record

-- "cylinder and head equal the home address; key plus data at most 13,030"; R is at most 255
unfoldable pub sound_record : Address → Record → Bool
sound_record a x = same x.at a && leb x.r 255 && leb (length x.key + length x.body) 13030

-- ---- the records of one track

-- whether a record number is among others
unfoldable pub member : ℕ → List ℕ → Bool
member r [] = false
member r (q ∷ qs) = pick (eqb q r) true (member r qs)

-- "R = 0 first"
unfoldable pub zero_first : List Record → Bool
zero_first [] = false
zero_first (x ∷ xs) = eqb x.r 0

-- Each record is sound, and its R is not among those before it: "others with distinct R".
-- Since R0 is first, the others have 1 to 255.
unfoldable pub sound_records : Address → List ℕ → List Record → Bool
sound_records a seen [] = true
sound_records a seen (x ∷ xs) = sound_record a x && not (member x.r seen) && sound_records a (x.r ∷ seen) xs

-- ---- the tracks

-- "R = 0 first, then 1 to 255 others with distinct R", on the pack: its cylinders, "head 0 to 18";
-- 1 to 255 is the range of R, and a track with R0 alone is sound
unfoldable pub sound_track : ℕ → Track → Bool
sound_track last t = on_pack last t.at && zero_first t.records && sound_records t.at [] t.records

-- whether a track may follow the one before it
unfoldable pub follows : Option Address → Address → Bool
follows None a = true
follows (Some b) a = before b a

-- "Tracks strictly ascending", each on the pack. "No tracks is allowed."
unfoldable pub sound_tracks : ℕ → Option Address → List Track → Bool
sound_tracks last b [] = true
sound_tracks last b (t ∷ ts) = follows b t.at && sound_track last t && sound_tracks last (Some t.at) ts

-- ---- the image

-- whether a list of records is empty
unfoldable pub no_records : List Record → Bool
no_records [] = true
no_records (x ∷ xs) = false

-- Whether the bytes from a place on are sound tracks behind b, with no record before the first home address.
unfoldable pub well_formed_from : ℕ → Option Address → List ℕ → ℕ → Bool
well_formed_from last b s at = opt (decode_at s at) false (λ d. no_records d.records && sound_tracks last b d.tracks)

-- "Is the image well formed?"
unfoldable pub well_formed : ℕ → List ℕ → Bool
well_formed last s = well_formed_from last None s 0

-- Questions 1 and 2, for an image alone.
unfoldable pub image_answer : Model → List ℕ → Result Unit Question
image_answer m s = pick (image_fits (length s)) (pick (well_formed (last_of m) s) (Ok tt) (Err Question.Image)) (Err Question.Areas)
