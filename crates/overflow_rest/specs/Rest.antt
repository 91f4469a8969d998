-- Restart CCW 1 of actions 9 and 11 puts the rest of the read exactly where the uncut read would have put it (document 02, overflow actions 9 and 11):
-- "Restart CCW 1 is a 06 with the interrupted CCW's flags, the CSW's count left, and that CCW's address plus the bytes it has taken (under skip
-- unchanged).", and behind it "The last TIC, to the next non-TIC CCW (none is number 9), stands only where the interrupted CCW chains."
--   rest_place                 where CCW 1 stands
--   restart_lent               the areas of the restart's run
--   uncut_walk, rest_walk      the read, as if nothing had cut it, and the read of CCW 1
--   GoesOnAs                   behind the cut both reads go to the same places, and they end alike
--   RestGoesOn                 of a restart: its CCW 1, and that it goes on so
--   RestartsGoOn               of every restart that an action answers
--   NineGoesOn, ElevenGoesOn   of actions 9 and 11
--   OverflowGoesOn             of the rule that both follow, to whichever track
--   RecoveryGoesOn             of recovery, where it answers a restart of 9 or 11
use Rattle.std.specs.Prelude.{ℕ, ◌+◌, ◌≤◌, ◌≡◌, Bool, true, false, List, ◌++◌, length, Option, Some, None}
use Rattle.address.specs.declared.Address.{Address}
use Rattle.channel.specs.declared.Ccw.{Ccw}
use Rattle.channel.specs.declared.Location.{Location}
use Rattle.channel.specs.declared.Location.TheVariants.{Chain, Restart}
use Rattle.channel.specs.Ccw.{Lent, fetch_in}
use Rattle.channel.specs.Store.{store}
use Rattle.channel.specs.Walk.{Walk, walked, checked, walk, readable, incorrect_length}
use Rattle.recovery.specs.Report.{Report}
use Rattle.recovery.specs.Recovery.{Given, Kind, Recovery, five, five_a, eight, nine, ten, ten_a, eleven, restarts, only_chain, restart_displacement, overflow_read, overflow, action_nine, action_eleven, recover}
use Rattle.recovery_storage.specs.Storage.{places_of}

-- ---- two walks

-- "Build 9 as 8 and 11 as 10A, with restart CCW 1 before the last TIC.": behind the seek, the mask (omitted if none), the sector and the 1A
unfoldable pub rest_place : Option ℕ → ℕ
rest_place None = 24
rest_place (Some m) = 32

-- the chain and its arguments, with a restart program and its arguments beside them
abbrev pub restart_lent : (chain arguments program restart_arguments : List ℕ) → Lent
restart_lent chain arguments program restart_arguments = record { chain = chain; arguments = arguments; program = program; restart_arguments = restart_arguments }

-- n bytes of the read that tag 12 names, with c as its first CCW, as if nothing had cut it
abbrev pub uncut_walk : Given → Report → (st : List ℕ) → Ccw → (n : ℕ) → Walk
uncut_walk g r st c n = walk (only_chain g.chain) (length st) n (Chain r.first) c c.count c.address

-- n bytes of the read of CCW 1, which is c
abbrev pub rest_walk : Lent → Report → (st : List ℕ) → Ccw → (n : ℕ) → Walk
rest_walk p r st c n = walk p (length st) n (Restart (rest_place r.mask)) c c.count c.address

-- CCW 1 is `first`, at `one`. The interrupted CCW is `cut`, at `at`; `before` are the places of the bytes before the cut. Of a walk of CCW 1 and an uncut
-- walk: behind those places the uncut walk has the places of the other, and both end alike.
pub data GoesOnAs (before : List (Option ℕ)) (one : Location) (first : Ccw) (at : Location) (cut : Ccw) : Walk → Walk → Type 0 where
  -- the one in CCW 1 and the other in the interrupted CCW, with the same count left, and with bytes left over or not
  in_these : (ps : List (Option ℕ)) (left : ℕ) (over : Bool)
      → GoesOnAs before one first at cut (walked ps one first left over) (walked (before ++ ps) at cut left over)
  -- in one CCW of the chain, to which the last TIC led as the interrupted CCW does
  behind_these : (ps : List (Option ℕ)) (a : ℕ) (c : Ccw) (left : ℕ) (over : Bool)
      → GoesOnAs before one first at cut (walked ps (Chain a) c left over) (walked (before ++ ps) (Chain a) c left over)
  -- with one program check, at the same CCW
  checks : (ps : List (Option ℕ)) (l : Location) → GoesOnAs before one first at cut (checked ps l) (checked (before ++ ps) l)

-- ---- the restart

-- Of a restart program and its arguments, built from a report.
pub record RestGoesOn (g : Given) (r : Report) (st program restart_arguments : List ℕ) : Type 0 where
  -- the read's first CCW
  pub read : Ccw
  pub reads : overflow_read g r st ≡ Some read
  -- the interrupted CCW, which the CSW shows, and the places of the bytes before the cut: as many as the restart displacement says
  pub cut : Ccw
  pub at : ℕ
  pub before : List (Option ℕ)
  pub is_cut : uncut_walk g r st read (restart_displacement r.sense) ≡ walked before (Chain at) cut r.csw.count false
  pub shown : r.csw.address ≡ at + 8
  pub counted : length before ≡ restart_displacement r.sense
  -- CCW 1: at its place of the program; a 06; a read may use it; what is incorrect length for the interrupted CCW is so for it, and nothing else
  pub first : Ccw
  pub stands : fetch_in program (rest_place r.mask) ≡ Some first
  pub reads_data : first.command ≡ 0x06
  pub sound : readable (length st) first ≡ true
  pub judged : (left : ℕ) (over : Bool) → incorrect_length first left over ≡ incorrect_length cut left over
  -- however many bytes more there are
  pub goes_on : (arguments : List ℕ) (more : ℕ)
      → GoesOnAs before (Restart (rest_place r.mask)) first (Chain at) cut
      (rest_walk (restart_lent g.chain arguments program restart_arguments) r st first more)
      (uncut_walk g r st read (restart_displacement r.sense + more))
  -- and so, of the bytes `front` before the cut and `rest` behind it: storage after the uncut read of all is storage after `front`, then `rest` by CCW 1
  pub stores : (arguments front rest s : List ℕ) → length front ≡ restart_displacement r.sense
      → store (places_of (uncut_walk g r st read (restart_displacement r.sense + length rest))) (front ++ rest) s
      ≡ store (places_of (rest_walk (restart_lent g.chain arguments program restart_arguments) r st first (length rest))) rest (store before front s)

-- Of every restart that an action answers: it is of this kind, leaves storage as it is, and goes on so. The chain ends below the restart program, which is
-- at 1000; question 1 takes chains of at most 2,048 bytes.
abbrev pub RestartsGoOn : Kind → (Given → Report → List ℕ → Recovery) → Type 0
RestartsGoOn k action =
    (g : Given) (r : Report) (st : List ℕ) (j : Kind) (program restart_arguments s : List ℕ)
    → length g.chain ≤ 0x1000 → action g r st ≡ restarts j program restart_arguments s
    → (j ≡ k) × (s ≡ st) × RestGoesOn g r st program restart_arguments

-- of action 9
abbrev pub NineGoesOn : Type 0
NineGoesOn = RestartsGoOn nine action_nine

-- of action 11
abbrev pub ElevenGoesOn : Type 0
ElevenGoesOn = RestartsGoOn eleven action_eleven

-- of the rule that both follow, to whichever track
abbrev pub OverflowGoesOn : Type 0
OverflowGoesOn = (k : Kind) (track : Address → Option Address) → RestartsGoOn k (λ g r st. overflow g r st k track)

-- a restart of 9 or 11
unfoldable pub has_rest : Kind → Bool
has_rest five = false
has_rest five_a = false
has_rest eight = false
has_rest nine = true
has_rest ten = false
has_rest ten_a = false
has_rest eleven = true

-- of whatever recovery answers, by any error table
abbrev pub RecoveryGoesOn : Type 0
RecoveryGoesOn =
    (g : Given) (r : Report) (st : List ℕ) (j : Kind) (program restart_arguments s : List ℕ)
    → length g.chain ≤ 0x1000 → recover g r st ≡ restarts j program restart_arguments s → has_rest j ≡ true
    → (s ≡ st) × RestGoesOn g r st program restart_arguments
