-- Which bytes of storage recovery changes: "store into none but the three at most concerned" (document 02, "Patch without copying out").
use Rattle.std.specs.Prelude.{ℕ, ◌+◌, ◌<◌, ◌≡◌, ◌≢◌, Bool, true, false, List, length, get_or, Option, Some, None}
use Rattle.channel.specs.declared.Ccw.{Ccw}
use Rattle.channel.specs.Ccw.{fetch_in}
use Rattle.channel.specs.Walk.{Walk, walked, checked}
use Rattle.recovery.specs.Report.{Report}
use Rattle.recovery.specs.Recovery.{Kind, five, five_a, eight, nine, ten, ten_a, eleven, Recovery, refused, action_one, action_two, repeats, corrected_only, finished, restarts, Given, error_displacement, pattern_from, retrace, recover}

-- storage behind an answer: "Areas not named by an answer keep their bytes."
unfoldable pub storage_behind : Recovery → List ℕ → List ℕ
storage_behind (refused q) st = st
storage_behind action_one st = st
storage_behind action_two st = st
storage_behind repeats st = st
storage_behind (corrected_only s) st = s
storage_behind (finished w s) st = s
storage_behind (restarts k p a s) st = s

-- the restarts of action 5
unfoldable pub of_five : Kind → Bool
of_five five = true
of_five five_a = true
of_five eight = false
of_five nine = false
of_five ten = false
of_five ten_a = false
of_five eleven = false

-- an action 5 that corrects: "corrected only", "finished", and its restarts
unfoldable pub corrects : Recovery → Bool
corrects (refused q) = false
corrects action_one = false
corrects action_two = false
corrects repeats = false
corrects (corrected_only s) = true
corrects (finished w s) = true
corrects (restarts k p a s) = of_five k

-- the places that the bytes of a read went to
unfoldable pub places_of : Walk → List (Option ℕ)
places_of (walked ps l c left over) = ps
places_of (checked ps l) = ps

-- Byte j of a read stayed at a, where the read's bytes went to the places ps: it went there, and no later byte did. "Skipped bytes, bytes past
-- the counts, and bytes overwritten later by the same read are left."
pub record StayedAt (ps : List (Option ℕ)) (j a : ℕ) : Type 0 where
  pub went : get_or ps j None ≡ Some a
  pub last : (m : ℕ) → j < m → get_or ps m None ≢ Some a

-- A pattern byte of the report stayed at a.
pub record PatternStayed (g : Given) (r : Report) (st : List ℕ) (a : ℕ) : Type 0 where
  -- which of them: there are three, sense 20 to 22
  pub which : ℕ
  pub of_three : which < 3
  -- "Pattern byte i below the error displacement"
  pub below : which < error_displacement r.sense
  -- of the read whose first CCW is this one
  pub ccw : Ccw
  pub first : fetch_in g.chain r.first ≡ Some ccw
  -- "belongs to byte restart minus error displacement plus i of the read"
  pub stayed : StayedAt (places_of (retrace g r st ccw)) (pattern_from r.sense + which) a

-- What is left of storage st, where the answer corrects or not: as many bytes, each as it was but at places of one kind; and without a correction
-- every byte.
pub record Patched (Place : ℕ → Type 0) (correcting : Bool) (st after : List ℕ) : Type 0 where
  pub as_long : length after ≡ length st
  pub kept : (a : ℕ) → (Place a → ⊥) → get_or after a 0 ≡ get_or st a 0
  pub untouched : correcting ≡ false → after ≡ st

-- Recovery, whatever it is told, changes no byte of storage but where a pattern byte of the report stayed, and none unless action 5 corrects.
abbrev pub PatchesInPlace : Type 0
PatchesInPlace =
    (g : Given) (r : Report) (st : List ℕ) → Patched (PatternStayed g r st) (corrects (recover g r st)) st (storage_behind (recover g r st) st)
