-- Recovery from one report (document 01, "Actions built" and "The questions"; document 02, multitrack reads, the head reached,
-- and overflow actions 9 and 11).
use Rattle.std.specs.Prelude.{ℕ, ◌+◌, ◌-◌, ◌%◌, Bool, true, false, ◌&&◌, ◌||◌, not, List, [], eqb, ltb, leb, length, get_or, Option, Some, None, Result, Ok, Err}
use Rattle.base.specs.Choice.{pick, opt}
use Rattle.base.specs.Bytes.{be16_at, be24_at, part}
use Rattle.base.specs.Bits.{bit_on}
use Rattle.questions.specs.declared.Question.{Question}
use Rattle.questions.specs.declared.Question.TheVariants as Question
use Rattle.address.specs.declared.Address.{Address}
use Rattle.address.specs.declared.Extent.{Extent}
use Rattle.address.specs.Order.{on_pack}
use Rattle.address.specs.Within.{within}
use Rattle.channel.specs.declared.Ccw.{Ccw}
use Rattle.channel.specs.declared.Location.{Location}
use Rattle.channel.specs.declared.Location.TheVariants.{Chain, Restart}
use Rattle.channel.specs.declared.Csw.{Csw}
use Rattle.channel.specs.Ccw.{Lent, chains_data, chains_command, is_tic, address_of, next, fetch_in, resolve}
use Rattle.channel.specs.Csw.{unit_check}
use Rattle.channel.specs.Walk.{Walk, walked, checked, walk, readable, incorrect_length}
use Rattle.drive.specs.declared.Command.{Command}
use Rattle.drive.specs.declared.Command.TheVariants.{NoOperation, Seek, SetMask, SetSector, SearchId, ReadHome, ReadRecord, SearchIdMultitrack, ReadMultitrack, Unlisted}
use Rattle.drive.specs.Command.{command_of}
use Rattle.drive.specs.Step.{sought, spread}
use Rattle.restart.specs.Restart.{ccw_bytes, program_of, count_for, search_program, rest_ccw, overflow_program, restart_arguments_of, search_arguments}
use Rattle.recovery.specs.Table.{Row, action_for}
use Rattle.recovery.specs.Report.{Report}
use Rattle.recovery.specs.Correct.{corrected}

-- Which restart was built.
pub data Kind : Type 0 where
  five five_a eight nine ten ten_a eleven : Kind

-- What recovery answers. Areas that an answer does not name keep their bytes.
pub data Recovery : Type 0 where
  refused : Question → Recovery
  -- a permanent error; the condition goes back to the program, with no retry; the chain is to be run again
  action_one action_two repeats : Recovery
  -- storage as corrected, and no more
  corrected_only : List ℕ → Recovery
  -- the CSW less unit check, and storage as corrected
  finished : Csw → List ℕ → Recovery
  -- a restart program with its arguments, and storage, corrected by action 5
  restarts : Kind → List ℕ → List ℕ → List ℕ → Recovery

-- What recovery is told besides the report: the last cylinder, the error table, the chain, the extent.
pub record Given : Type 0 where
  pub last : ℕ
  pub rows : List Row
  pub chain : List ℕ
  pub extent : Extent

-- the chain alone, as the areas of a walk
unfoldable pub only_chain : List ℕ → Lent
only_chain s = record { chain = s; arguments = []; program = []; restart_arguments = [] }

-- "In 5, 8, 10 and 10A, a restart whose seek lies off the pack or outside the extent is not built: the answer is action 2, storage untouched."
unfoldable pub seek_allowed : Given → Address → Bool
seek_allowed g a = on_pack g.last a && within g.extent a

-- "a next CCW (not TIC to TIC)": the user's next non-TIC CCW behind one of the chain
unfoldable pub on_next : {A : Type 0} → Result (Location × Ccw) Location → A → (ℕ → Ccw → A) → A
on_next (Err l) y f = y
on_next (Ok (Restart a, c)) y f = y
on_next (Ok (Chain a, c)) y f = f a c

-- "tag 12 a 06, 0E or 1E", "Question 9 takes 86, 8E and 9E too": a command that reads a data area
unfoldable pub reads_data : Command → Bool
reads_data NoOperation = false
reads_data Seek = false
reads_data SetMask = false
reads_data SetSector = false
reads_data SearchId = false
reads_data ReadHome = false
reads_data Unlisted = false
reads_data (ReadRecord k) = k.datas
reads_data SearchIdMultitrack = false
reads_data (ReadMultitrack k) = k.datas

-- "mask bit 7 (PCI fetch mode) on"
unfoldable pub fetch_mode : Option ℕ → Bool
fetch_mode None = false
fetch_mode (Some m) = bit_on 7 m

-- "incorrect length or no CC, 'finished' with the CSW less unit check"
unfoldable pub less_unit_check : Csw → Csw
less_unit_check w = record { address = w.address; unit = w.unit - pick (bit_on 6 w.unit) unit_check 0; channel = w.channel; count = w.count }

-- two tests that came out alike
unfoldable pub alike : Bool → Bool → Bool
alike true b = b
alike false b = not b

-- ---- what the sense bytes of action 5 say

-- of the sense bytes "15 to 17 restart displacement"
abbrev pub restart_displacement : (sense : List ℕ) → ℕ
restart_displacement sense = be24_at sense 15

-- of the sense bytes "18 and 19 error displacement"
abbrev pub error_displacement : (sense : List ℕ) → ℕ
error_displacement sense = be16_at sense 18

-- "Pattern byte i .. belongs to byte restart minus error displacement plus i of the read": the first byte of the pattern
abbrev pub pattern_from : (sense : List ℕ) → ℕ
pattern_from sense = restart_displacement sense - error_displacement sense

-- "error displacement not 0, restart displacement at most 13,038 and not below it, sector under 128"
unfoldable pub sensible : (sense : List ℕ) → Bool
sensible sense =
    not (eqb (error_displacement sense) 0) && leb (restart_displacement sense) 13038 && leb (error_displacement sense) (restart_displacement sense)
    && ltb (get_or sense 13 0) 128

-- "Pattern byte i below the error displacement belongs to byte restart minus error displacement plus i of the read.", for the places ps of
-- that read
unfoldable pub correction : (sense : List ℕ) → List (Option ℕ) → List ℕ → List ℕ
correction sense ps st = corrected ps (spread (restart_displacement sense) (pattern_from sense) (part sense 20 23)) st

-- the track of "sense 8 to 11"
abbrev pub cut_track : (sense : List ℕ) → Address
cut_track sense = record { cylinder = be16_at sense 8; head = be16_at sense 10 }

-- "that ends at the CSW's CCW, count and incorrect length"
unfoldable pub agrees : Csw → Location → ℕ → Bool → Bool
agrees w l left wrong = eqb w.address (address_of l + 8) && eqb w.count left && alike (bit_on 1 w.channel) wrong

-- "that ends .. at the CSW's CCW and count, not 0"
unfoldable pub cut_inside : Csw → Location → ℕ → Bool
cut_inside w l left = eqb w.address (address_of l + 8) && eqb w.count left && not (eqb left 0)

-- ---- tracks and seeks of 8 to 11

-- "cylinder plus 1, head 0"
abbrev pub next_cylinder : Address → Address
next_cylinder a = record { cylinder = a.cylinder + 1; head = 0 }

-- "then one is added, 18 carrying as before"
unfoldable pub next_track : Address → Address
next_track a = pick (eqb a.head 18) (next_cylinder a) (record { cylinder = a.cylinder; head = a.head + 1 })

-- "the head from sense byte 6, bits 3 to 7"
unfoldable pub reached_head : (sense : List ℕ) → ℕ
reached_head sense = get_or sense 6 0 % 32

-- "For 10A the cylinder comes from the user's argument and the head from sense byte 6"; "A head above 18 there means that report and chain disagree"
unfoldable pub reached_track : (sense : List ℕ) → Address → Option Address
reached_track sense a = pick (leb (reached_head sense) 18) (Some (record { cylinder = a.cylinder; head = reached_head sense })) None

-- "Build .. 11 as 10A": the track behind that one
unfoldable pub behind_reached : (sense : List ℕ) → Address → Option Address
behind_reached sense a = opt (reached_track sense a) None (λ b. Some (next_track b))

-- "If that CCW is a seek"
unfoldable pub is_seek : Command → Bool
is_seek Seek = true
is_seek NoOperation = false
is_seek SetMask = false
is_seek SetSector = false
is_seek SearchId = false
is_seek ReadHome = false
is_seek Unlisted = false
is_seek (ReadRecord k) = false
is_seek SearchIdMultitrack = false
is_seek (ReadMultitrack k) = false

-- "tag 14 present with first two bytes 0, cylinder and head on the pack", of a pack with this last cylinder
unfoldable pub user_track : (last : ℕ) → Option (List ℕ) → Option Address
user_track last seek = opt seek None (λ s. pick (eqb (be16_at s 0) 0 && on_pack last (sought s)) (Some (sought s)) None)

module _ (g : Given) (r : Report) (st : List ℕ) where
  -- ---- action 5

  -- the walk of the restart displacement's bytes from the read's first CCW, which is c
  unfoldable pub retrace : Ccw → Walk
  retrace c =
      pick (readable (length st) c)
      (walk (only_chain g.chain) (length st) (restart_displacement r.sense) (Chain r.first) c c.count c.address)
      (checked [] (Chain r.first))

  -- "seek (00 00, sense 8 to 11), mask .., sector from sense 13, search ID (sense 8 to 12), TIC to that search, then TIC to the user's
  -- next non-TIC CCW. If that CCW's command has bit 3 off (5A), a read count .. stands before the last TIC."
  unfoldable pub search_restart : List (Option ℕ) → ℕ → Ccw → Recovery
  search_restart ps to c =
      pick (seek_allowed g (cut_track r.sense))
      (restarts (pick (bit_on 3 c.command) five five_a)
      (search_program r.mask (count_for c.command) to)
      (search_arguments (cut_track r.sense) r.mask (get_or r.sense 13 0) (get_or r.sense 12 0))
      (correction r.sense ps st))
      action_two

  -- "Then: mask bit 7 .. on, 'corrected only'; incorrect length or no CC, 'finished' ..; else restart"
  unfoldable pub after_walk : List (Option ℕ) → Location → Ccw → Bool → Recovery
  after_walk ps l c wrong =
      pick (fetch_mode r.mask) (corrected_only (correction r.sense ps st))
      (pick (wrong || not (chains_command c)) (finished (less_unit_check r.csw) (correction r.sense ps st))
      (on_next (resolve (only_chain g.chain) l (next l)) (refused Question.Agreement) (search_restart ps)))

  -- "a walk without program check that ends at the CSW's CCW, count and incorrect length"
  unfoldable pub walked_to : Walk → Recovery
  walked_to (checked ps l) = refused Question.Agreement
  walked_to (walked ps l c left over) =
      pick (agrees r.csw l left (incorrect_length c left over)) (after_walk ps l c (incorrect_length c left over)) (refused Question.Agreement)

  -- "For 5: is sense 7 = 53?", then "Do report and chain agree"
  unfoldable pub action_five : Recovery
  action_five =
      pick (eqb (get_or r.sense 7 0) 0x53)
      (opt (fetch_in g.chain r.first) (refused Question.Agreement)
      (λ c. pick (reads_data (command_of c.command) && sensible r.sense) (walked_to (retrace c)) (refused Question.Agreement)))
      (refused Question.Format)

  -- ---- actions 8, 10 and 10A

  -- "mask; sector 0; 1A (flags 50, count 5); TIC to" a CCW of the chain
  unfoldable pub home_restart : Kind → Address → ℕ → Recovery
  home_restart k a to =
      pick (seek_allowed g a)
      (restarts k (program_of r.mask (ccw_bytes 0x1a 0 0x50 5) to) (restart_arguments_of a r.mask 0 []) st)
      action_two

  -- "The interrupted CCW is the one 8 below the CSW's address": "the interrupted CCW in the chain and no TIC"
  unfoldable pub interrupted : Option Ccw
  interrupted = pick (leb 8 r.csw.address) (opt (fetch_in g.chain (r.csw.address - 8)) None (λ c. pick (is_tic c) None (Some c))) None

  -- with both, or 9
  unfoldable pub with_track : (Address → Ccw → Recovery) → Recovery
  with_track f = opt (user_track g.last r.seek) (refused Question.Agreement) (λ a. opt interrupted (refused Question.Agreement) (f a))

  -- "Seek argument with cylinder plus 1, head 0; .. TIC to the interrupted CCW"
  unfoldable pub action_eight : Recovery
  action_eight = with_track (λ a c. home_restart eight (next_cylinder a) (r.csw.address - 8))

  -- "If that CCW is a seek: the same with the user's argument, TIC to the next non-TIC CCW."; "if it is a seek in 10, CC on and a next CCW
  -- (not TIC to TIC)"
  unfoldable pub seek_restart : Address → Ccw → Recovery
  seek_restart a c =
      pick (chains_command c)
      (on_next (resolve (only_chain g.chain) (Chain (r.csw.address - 8)) (Chain r.csw.address)) (refused Question.Agreement) (λ to d. home_restart ten a to))
      (refused Question.Agreement)

  -- 10A: "the argument's track plus 1 .., TIC to the interrupted CCW", the argument's head being the one reached; "number 9"
  unfoldable pub reached_restart : Address → Recovery
  reached_restart a = opt (reached_track r.sense a) (refused Question.Agreement) (λ b. home_restart ten_a (next_track b) (r.csw.address - 8))

  -- "If that CCW is a seek: .. Otherwise 10A"
  unfoldable pub action_ten : Recovery
  action_ten = with_track (λ a c. pick (is_seek (command_of c.command)) (seek_restart a c) (reached_restart a))

  -- ---- actions 9 and 11

  -- "tag 12 as action 5 does, sense 3 = 06": the read's first CCW
  unfoldable pub overflow_read : Option Ccw
  overflow_read =
      opt (fetch_in g.chain r.first) None
      (λ c. pick (reads_data (command_of c.command) && eqb (get_or r.sense 3 0) 0x06) (Some c) None)

  -- "Build 9 as 8 and 11 as 10A, with restart CCW 1 before the last TIC."; "A seek outside the extent gives action 2."
  unfoldable pub overflow_restart : Kind → Address → Ccw → Option ℕ → Recovery
  overflow_restart k a c tic =
      pick (seek_allowed g a)
      (restarts k (overflow_program r.mask (rest_ccw c r.csw.count) tic) (restart_arguments_of a r.mask 0 []) st)
      action_two

  -- "The last TIC, to the next non-TIC CCW (none is number 9), stands only where the interrupted CCW chains."
  unfoldable pub from_interrupted : Kind → Address → Location → Ccw → Recovery
  from_interrupted k a l c =
      pick (chains_data c || chains_command c)
      (on_next (resolve (only_chain g.chain) l (next l)) (refused Question.Agreement) (λ to d. overflow_restart k a c (Some to)))
      (overflow_restart k a c None)

  -- "from tag 12 a walk of the restart displacement that ends without program check at the CSW's CCW and count, not 0; else number 9"
  unfoldable pub overflow_walk : Kind → Address → Walk → Recovery
  overflow_walk k a (checked ps l) = refused Question.Agreement
  overflow_walk k a (walked ps l c left over) = pick (cut_inside r.csw l left) (from_interrupted k a l c) (refused Question.Agreement)

  -- the restart to the track a
  unfoldable pub overflow_at : Kind → Address → Recovery
  overflow_at k a = opt overflow_read (refused Question.Agreement) (λ c. overflow_walk k a (retrace c))

  -- "They need tag 14 as action 8 does": the restart to the track that comes of the user's
  unfoldable pub overflow : Kind → (Address → Option Address) → Recovery
  overflow k track =
      opt (user_track g.last r.seek) (refused Question.Agreement) (λ u. opt (track u) (refused Question.Agreement) (overflow_at k))

  -- "9 as 8": "Seek argument with cylinder plus 1, head 0"
  unfoldable pub action_nine : Recovery
  action_nine = overflow nine (λ u. Some (next_cylinder u))

  -- "11 as 10A"
  unfoldable pub action_eleven : Recovery
  action_eleven = overflow eleven (behind_reached r.sense)

  -- ---- the action

  -- "3 repeats if tries are 0, 4 if under 10, else 1."
  unfoldable pub tried : ℕ → Recovery
  tried limit = pick (ltb r.tries limit) repeats action_one

  -- question 7: "Number 7 remains for 6, 6A and 7."
  unfoldable pub act : ℕ → Recovery
  act k =
      pick (eqb k 1) action_one
      (pick (eqb k 2) action_two
      (pick (eqb k 3) (tried 1)
      (pick (eqb k 4) (tried 10)
      (pick (eqb k 5) action_five
      (pick (eqb k 8) action_eight
      (pick (eqb k 9) action_nine
      (pick (eqb k 10) action_ten
      (pick (eqb k 11) action_eleven
      (refused Question.Action)))))))))

  -- question 6: "Does a row match?"
  unfoldable pub recover : Recovery
  recover = opt (action_for g.rows r.sense) (refused Question.Row) act
