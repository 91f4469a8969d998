-- One command of a run (document 01, "Channel" and "Drive"; document 02, "Read on to the next head" and "Head reached, for 10A").
-- A command is first planned, with no knowledge of the fault list; only a plan that takes a data area asks the list.
-- So a faultless run is the same definition with an empty list.
use Rattle.std.specs.Prelude.{ℕ, zero, suc, ◌+◌, ◌-◌, Bool, true, false, ◌&&◌, ◌||◌, not, List, [], ◌∷◌, ◌++◌, eqb, ltb, length, get_or, take, replicate, Option, Some, None, Result, Ok, Err}
use Rattle.std.specs.Int.Bits.{bit_xor}
use Rattle.base.specs.Choice.{pick, opt}
use Rattle.base.specs.Bytes.{be16_at, two, three}
use Rattle.base.specs.Bits.{bit_on}
use Rattle.address.specs.declared.Address.{Address}
use Rattle.address.specs.Order.{on_pack}
use Rattle.pack.specs.Pack.{Record, Track, track_in}
use Rattle.faults.specs.Faults.{Fault, naming}
use Rattle.abstract_machine.specs.Machine.{Stepped, goes, ends, cuts}
use Rattle.channel.specs.declared.Ccw.{Ccw}
use Rattle.channel.specs.declared.Location.{Location}
use Rattle.channel.specs.declared.Csw.{Csw}
use Rattle.channel.specs.Ccw.{Lent, chains_data, chains_command, formed, next, resolve, argument_inside, argument}
use Rattle.channel.specs.Csw.{csw_at, end_status, unit_check, unit_exception, incorrect_length_status, program_check_status}
use Rattle.channel.specs.Store.{store}
use Rattle.channel.specs.Walk.{Walk, walked, checked, walk, readable, incorrect_length}
use Rattle.drive.specs.Drive.{Drive, at_index, moved_past, turn, passes_index, past_zero, taken, address_bytes, identifier, count_area, home_address, no_record, same_bytes}
use Rattle.drive.specs.declared.Read.{Read}
use Rattle.drive.specs.declared.Command.{Command}
use Rattle.drive.specs.declared.Command.TheVariants.{NoOperation, Seek, SetMask, SetSector, SearchId, ReadHome, ReadRecord, SearchIdMultitrack, ReadMultitrack, Unlisted}
use Rattle.drive.specs.Command.{command_of}

-- ---- what a command comes to

-- Between two commands: the place of the next CCW, the CCW that was fetched last with its count left, drive and storage.
pub record State : Type 0 where
  pub at : Location
  pub last : Location
  pub left : ℕ
  pub drive : Drive
  pub storage : List ℕ

-- A chain's end: CSW, the 24 sense bytes, all 0 unless a unit check ended it, the file mask, storage.
pub record End : Type 0 where
  pub csw : Csw
  pub sense : List ℕ
  pub mask : Option ℕ
  pub storage : List ℕ

-- A cut by a faulted data area: the record, the displacements and the pattern, whether the count ran out first,
-- the first CCW of the read, the file mask, the CSW, and storage as the read left it.
pub record Cut : Type 0 where
  pub at : Address
  pub r : ℕ
  pub restart : ℕ
  pub error : ℕ
  pub pattern : List ℕ
  pub over : Bool
  pub first : Location
  pub mask : Option ℕ
  pub csw : Csw
  pub storage : List ℕ

-- what one command comes to: the next command's state, the chain's end or a cut
abbrev pub Answer : Type 0
Answer = Stepped State End Cut

-- 24 sense bytes in which no bit is on
unfoldable pub no_sense : List ℕ
no_sense = replicate 24 0

-- "A program check is found before the drive sees the command, or at a data-chained CCW ..; unit status and count left are then 0."
unfoldable pub program_check : Location → Drive → List ℕ → Answer
program_check l d st = ends (record { csw = csw_at l 0 program_check_status 0; sense = no_sense; mask = d.mask; storage = st })

-- The unit checks that are no data check.
pub data Check : Type 0 where
  rejected not_found protected end_of_cylinder : Check
  -- of a step to the next head that is File Protected, with the head that the drive stands on
  protected_step : ℕ → Check

-- "only one bit is on: 0.0 command reject, 1.4 no record found, 1.5 file protected"; "End of Cylinder (1.2)". With one exception, of sense byte 6,
-- bits 3 to 7: "The trial drive sets these bits to the head it stands on when a step is File Protected."
unfoldable pub check_sense : Check → List ℕ
check_sense rejected = 0x80 ∷ replicate 23 0
check_sense not_found = 0 ∷ 0x08 ∷ replicate 22 0
check_sense protected = 0 ∷ 0x04 ∷ replicate 22 0
check_sense end_of_cylinder = 0 ∷ 0x20 ∷ replicate 22 0
check_sense (protected_step head) = 0 ∷ 0x04 ∷ 0 ∷ 0 ∷ 0 ∷ 0 ∷ head ∷ replicate 17 0

-- "commands rejected, protected or not found move nothing"; of End of Cylinder and a protected step: "both move nothing, with no incorrect length".
-- The count left is the CCW's own.
unfoldable pub refusal : Check → Location → Ccw → Drive → List ℕ → Answer
refusal k l c d st = ends (record { csw = csw_at l (end_status + unit_check) 0 c.count; sense = check_sense k; mask = d.mask; storage = st })

-- The command whose last CCW is c at l is done: on to a place, or the end where c does not chain.
-- "Otherwise unit status is 0C"
unfoldable pub onward : Location → Location → Ccw → ℕ → Drive → List ℕ → Answer
onward l to c left d st =
    pick (chains_command c) (goes (record { at = to; last = l; left = left; drive = d; storage = st }))
    (ends (record { csw = csw_at l end_status 0 left; sense = no_sense; mask = d.mask; storage = st }))

-- ---- plans

-- What a read takes besides count area, key or home address.
pub data DataArea : Type 0 where
  -- no data area: 12 and 1A
  nothing : DataArea
  -- one of length 0
  empty : DataArea
  -- the data of a record
  data_of : Record → DataArea

-- A read: its first CCW, its bytes, what data area is among them, the drive behind it, and its data chain's walk.
pub record Transfer : Type 0 where
  pub first : Location
  pub bytes : List ℕ
  pub area : DataArea
  pub after : Drive
  pub walk : Walk

-- What a command comes to before the fault list is asked: its answer, or the read that it makes.
pub data Plan : Type 0 where
  answer : Answer → Plan
  moves : Transfer → Plan

-- ---- control commands

-- "Mask bits 3 and 4 other than 00 make a seek file protected."
unfoldable pub protects : Option ℕ → Bool
protects None = false
protects (Some m) = bit_on 3 m || bit_on 4 m

-- "a second mask" is rejected: whether one was set since the run began
unfoldable pub is_set : Option ℕ → Bool
is_set None = false
is_set (Some m) = true

-- "mask bits 2, 5 or 6 on" is rejected
unfoldable pub settable : ℕ → Bool
settable m = not (bit_on 2 m || bit_on 5 m || bit_on 6 m)

-- the track that a seek argument names
unfoldable pub sought : List ℕ → Address
sought g = record { cylinder = be16_at g 2; head = be16_at g 4 }

module _ (l : Location) (c : Ccw) (d : Drive) (st : List ℕ) where
  -- a unit check that is no data check
  unfoldable pub refuse : Check → Plan
  refuse k = answer (refusal k l c d st)

  -- a control or search command is done: "other control and search commands" move "their count"
  unfoldable pub done : Location → Drive → Plan
  done to e = answer (onward l to c 0 e st)

  -- "a wrong control or search count, CD in one of these" is rejected
  unfoldable pub counted : ℕ → Plan → Plan
  counted n plan = pick (eqb c.count n && not (chains_data c)) plan (refuse rejected)

  -- "03 .. move nothing"
  unfoldable pub plan_no_operation : Plan
  plan_no_operation = pick (chains_data c) (refuse rejected) (answer (onward l (next l) c c.count (at_index d.at d.mask) st))

  -- "a seek off the pack or with first two bytes not 0: command reject", "A reject comes first."
  unfoldable pub plan_seek : ℕ → List ℕ → Plan
  plan_seek last g =
      pick (eqb (be16_at g 0) 0 && on_pack last (sought g))
      (pick (protects d.mask) (refuse protected) (done (next l) (at_index (sought g) d.mask)))
      (refuse rejected)

  -- "a second mask, mask bits 2, 5 or 6 on"
  unfoldable pub plan_mask : ℕ → Plan
  plan_mask m = pick (not (is_set d.mask) && settable m) (done (next l) (at_index d.at (Some m))) (refuse rejected)

  -- "23 sector (1: 0 to 127, or 255)"
  unfoldable pub plan_sector : ℕ → Plan
  plan_sector n = pick (ltb n 128 || eqb n 255) (done (next l) (at_index d.at d.mask)) (refuse rejected)

  -- ---- search

  -- index passes when the next count area comes
  unfoldable pub passes_now : ℕ → ℕ
  passes_now n = pick (passes_index n d.next) (d.passes + 1) d.passes

  -- "31 examines the next count area, R0 included; equal skips one CCW. A search passing the index a second time since the
  -- last control, read or equal search: no record found."
  unfoldable pub examine : List ℕ → List Record → ℕ → ℕ → Plan
  examine g xs place passes =
      pick (ltb 1 passes) (refuse not_found)
      (pick (same_bytes g (identifier (get_or xs place no_record))) (done (next (next l)) (moved_past d place true 0)) (done (next l) (moved_past d place true passes)))

  -- "A search or read on a track not in the image .. : no record found."
  unfoldable pub plan_search : List Track → List ℕ → Plan
  plan_search pack g =
      opt (track_in pack d.at) (refuse not_found)
      (λ t. examine g t.records (turn (length t.records) d.next) (passes_now (length t.records)))

  -- ---- reads

  -- a read of the bytes bs with the data area a, and the drive e behind it; its walk begins with the count and the address of c
  unfoldable pub plan_transfer : Lent → List ℕ → DataArea → Drive → Plan
  plan_transfer p bs a e = moves (record { first = l; bytes = bs; area = a; after = e; walk = walk p (length st) (length bs) l c c.count c.address })

  -- "1A home address"
  unfoldable pub plan_home : List Track → Lent → Plan
  plan_home pack p = opt (track_in pack d.at) (refuse not_found) (λ t. plan_transfer p (home_address t) nothing (at_index d.at d.mask))

-- bytes, where a read moves them
unfoldable pub included : Bool → List ℕ → List ℕ
included true s = s
included false s = []

-- "06 data, 0E key and data, 12 count, 1E count, key and data"
unfoldable pub bytes_of : Read → Record → List ℕ
bytes_of k x = included k.counts (count_area x) ++ included k.keys x.key ++ included k.datas x.body

-- "Data length 0 in 06, 0E, 1E: unit exception"
unfoldable pub area_of : Read → Record → DataArea
area_of k x = pick k.datas (pick (eqb (length x.body) 0) empty (data_of x)) nothing

module _ (l : Location) (c : Ccw) (d : Drive) (st : List ℕ) where
  -- behind a 12 its record's count area was just passed
  unfoldable pub plan_record : Lent → Read → Record → ℕ → Plan
  plan_record p k x place = plan_transfer l c d st p (bytes_of k x) (area_of k x) (moved_past d place (not k.datas) 0)

  -- "a read going round with R0 alone: no record found"
  unfoldable pub plan_place : Lent → Read → List Record → ℕ → Plan
  plan_place p k xs place = pick (ltb place (length xs)) (plan_record p k (get_or xs place no_record) place) (refuse l c d st not_found)

  -- "A search or read on a track not in the image .. : no record found."
  unfoldable pub plan_read : List Track → Lent → Read → Plan
  plan_read pack p k =
      opt (track_in pack d.at) (refuse l c d st not_found) (λ t. plan_place p k t.records (taken k.just d (length t.records)))

-- ---- multitrack commands

-- Where a multitrack command finds what it searches or reads: with the drive as it stands, or at the index of a head behind; or the unit check
-- that ends it on the way there.
pub data Reached : Type 0 where
  reaches : Drive → Reached
  fails : Check → Reached

-- what comes of either
unfoldable pub on_reached : {A : Type 0} → Reached → (Check → A) → (Drive → A) → A
on_reached (reaches d) f g = g d
on_reached (fails k) f g = f k

-- "mask bits 3 and 4 at 11 make the step File Protected"
unfoldable pub protects_step : Option ℕ → Bool
protects_step None = false
protects_step (Some m) = bit_on 3 m && bit_on 4 m

-- "searches begin there with R0, reads after R0, and the count of index passes starts again": at the index of the next head
unfoldable pub next_head : Drive → Drive
next_head d = at_index (record { cylinder = d.at.cylinder; head = d.at.head + 1 }) d.mask

-- "Past head 18 they end with End of Cylinder (1.2) under any mask; before it, mask bits 3 and 4 at 11 make the step File Protected"
unfoldable pub stepped : Drive → Reached
stepped d =
    pick (ltb d.at.head 18)
    (pick (protects_step d.mask) (fails (protected_step d.at.head)) (reaches (next_head d)))
    (fails end_of_cylinder)

-- "Where the single-track form would pass the index, these step to the next head": a search, to the count area that comes next. A track that is
-- not in the image has none.
unfoldable pub search_from : List Track → Drive → Reached
search_from pack d =
    opt (track_in pack d.at) (fails not_found)
    (λ t. pick (passes_index (length t.records) d.next) (stepped d) (reaches d))

-- A read, to the next record other than R0, over tracks with R0 alone too. It looks at no more than n tracks; with 19, the heads of a cylinder,
-- the first line is not met.
unfoldable pub read_from : List Track → ℕ → Drive → Reached
read_from pack zero d = fails end_of_cylinder
read_from pack (suc n) d =
    opt (track_in pack d.at) (fails not_found)
    (λ t. pick (passes_index (length t.records) (past_zero d.next)) (on_reached (stepped d) fails (read_from pack n)) (reaches d))

-- 86 and 8E (`just`) take "the record whose count area was just passed" as 06 and 0E do, and pass no index for it
unfoldable pub take_from : List Track → Bool → Drive → Reached
take_from pack just d = pick (just && d.passed) (reaches d) (read_from pack 19 d)

module _ (l : Location) (c : Ccw) (d : Drive) (st : List ℕ) where
  -- "The drive stays on the head reached": a multitrack command is its single-track form from there
  unfoldable pub plan_search_multitrack : List Track → List ℕ → Plan
  plan_search_multitrack pack g = on_reached (search_from pack d) (refuse l c d st) (λ e. plan_search l c e st pack g)

  -- so for the reads: 86 and 8E (`k.just`), 92 and 9E
  unfoldable pub plan_read_multitrack : List Track → Lent → Read → Plan
  plan_read_multitrack pack p k = on_reached (take_from pack k.just d) (refuse l c d st) (λ e. plan_read l c e st pack p k)

-- ---- one CCW

-- the program checks of a CCW that is no TIC: "count 0 or low flag bits on", "a data range not wholly in its area";
-- "03 and unlisted codes have none"
unfoldable pub sound : Lent → Location → ℕ → Ccw → Command → Bool
sound p l size c NoOperation = formed c
sound p l size c Unlisted = formed c
sound p l size c Seek = formed c && argument_inside p l c
sound p l size c SetMask = formed c && argument_inside p l c
sound p l size c SetSector = formed c && argument_inside p l c
sound p l size c SearchId = formed c && argument_inside p l c
sound p l size c ReadHome = readable size c
sound p l size c (ReadRecord k) = readable size c
sound p l size c SearchIdMultitrack = formed c && argument_inside p l c
sound p l size c (ReadMultitrack k) = readable size c

-- What a run is told: the pack's last cylinder, the pack, the areas that it reads.
pub record Setting : Type 0 where
  pub last : ℕ
  pub pack : List Track
  pub lent : Lent

-- a CCW without program check, by its command: "07 seek (count 6), 1F mask (1), 23 sector (1: ..); 31 search ID equal (5)"
unfoldable pub perform : Setting → Location → Ccw → Drive → List ℕ → Command → Plan
perform w l c d st NoOperation = plan_no_operation l c d st
perform w l c d st Unlisted = refuse l c d st rejected
perform w l c d st Seek = counted l c d st 6 (plan_seek l c d st w.last (argument w.lent l c))
perform w l c d st SetMask = counted l c d st 1 (plan_mask l c d st (get_or (argument w.lent l c) 0 0))
perform w l c d st SetSector = counted l c d st 1 (plan_sector l c d st (get_or (argument w.lent l c) 0 0))
perform w l c d st SearchId = counted l c d st 5 (plan_search l c d st w.pack (argument w.lent l c))
perform w l c d st ReadHome = plan_home l c d st w.pack w.lent
perform w l c d st (ReadRecord k) = plan_read l c d st w.pack w.lent k
perform w l c d st SearchIdMultitrack = counted l c d st 5 (plan_search_multitrack l c d st w.pack (argument w.lent l c))
perform w l c d st (ReadMultitrack k) = plan_read_multitrack l c d st w.pack w.lent k

-- "A program check is found before the drive sees the command"
unfoldable pub execute : Setting → Location → Ccw → Drive → List ℕ → Plan
execute w l c d st =
    pick (sound w.lent l (length st) c (command_of c.command)) (perform w l c d st (command_of c.command)) (answer (program_check l d st))

-- the CCW that comes next, or a program check instead of it
unfoldable pub dispatch : Setting → Drive → List ℕ → Result (Location × Ccw) Location → Plan
dispatch w d st (Err l) = answer (program_check l d st)
dispatch w d st (Ok (l, c)) = execute w l c d st

-- the plan of the CCW that comes next: at the state's place, or behind a TIC there
unfoldable pub plan : Setting → State → Plan
plan w s = dispatch w s.drive s.storage (resolve w.lent s.last s.at)

-- ---- the fault list

-- the channel status at a read's end
unfoldable pub length_status : Bool → ℕ
length_status wrong = pick wrong incorrect_length_status 0

-- "Incorrect length ends the chain."
unfoldable pub settled : List ℕ → Drive → List ℕ → Walk → Answer
settled bs d st (checked ps l) = program_check l d (store ps bs st)
settled bs d st (walked ps l c left over) =
    pick (incorrect_length c left over)
    (ends (record { csw = csw_at l end_status incorrect_length_status left; sense = no_sense; mask = d.mask; storage = store ps bs st }))
    (onward l (next l) c left d (store ps bs st))

-- "unit exception, chain ends"
unfoldable pub excepted : List ℕ → Drive → List ℕ → Walk → Answer
excepted bs d st (checked ps l) = program_check l d (store ps bs st)
excepted bs d st (walked ps l c left over) =
    ends (record { csw = csw_at l (end_status + unit_exception) (length_status (incorrect_length c left over)) left; sense = no_sense; mask = d.mask; storage = store ps bs st })

-- n bytes, the pattern from place k on and 0 elsewhere
unfoldable pub spread : ℕ → ℕ → List ℕ → List ℕ
spread n k pattern = take n (replicate k 0 ++ pattern ++ replicate n 0)

-- bytes with others exclusive-ored into them
unfoldable pub xored : List ℕ → List ℕ → List ℕ
xored [] xs = []
xored (b ∷ bs) [] = []
xored (b ∷ bs) (x ∷ xs) = bit_xor b x ∷ xored bs xs

-- "A faulted data area arrives with pattern byte i (0 to 2) exclusive-ored at data length minus displacement plus i where that
-- is inside": the data area is the end of the read
unfoldable pub arriving : List ℕ → Fault → List ℕ
arriving bs f = xored bs (spread (length bs) (length bs - f.displacement) f.pattern)

-- "and ends with unit check", "at a data-chained CCW, where it ends the read instead of any unit check"
unfoldable pub faulted : Location → Record → Fault → List ℕ → Drive → List ℕ → Walk → Answer
faulted first x f bs d st (checked ps l) = program_check l d (store ps (arriving bs f) st)
faulted first x f bs d st (walked ps l c left over) =
    cuts (record {
      at = x.at;
      r = x.r;
      restart = length bs;
      error = f.displacement;
      pattern = f.pattern;
      over = over;
      first = first;
      mask = d.mask;
      csw = csw_at l (end_status + unit_check) (length_status (incorrect_length c left over)) left;
      storage = store ps (arriving bs f) st;
    })

-- a read that takes the data of the record x, with the fault that names x if there is one
unfoldable pub by_fault : Transfer → Record → List ℕ → Option Fault → Answer
by_fault t x st None = settled t.bytes t.after st t.walk
by_fault t x st (Some f) = faulted t.first x f t.bytes t.after st t.walk

-- a read by its data area, under a fault list
unfoldable pub transferred : List Fault → Transfer → List ℕ → DataArea → Answer
transferred fs t st nothing = settled t.bytes t.after st t.walk
transferred fs t st empty = excepted t.bytes t.after st t.walk
transferred fs t st (data_of x) = by_fault t x st (naming fs x.at x.r)

-- a plan under a fault list
unfoldable pub carry : List Fault → List ℕ → Plan → Answer
carry fs st (answer a) = a
carry fs st (moves t) = transferred fs t st t.area

-- one command of a run, under a fault list
unfoldable pub step : List Fault → Setting → State → Answer
step fs w s = carry fs s.storage (plan w s)

-- ---- what a command reads

-- A data area that a 06, 0E, 1E, 86, 8E or 9E takes: its record, and whether the fault list names it.
pub record Area : Type 0 where
  pub at : Address
  pub r : ℕ
  pub faulted : Bool

-- "a record that the list names": whether there is a fault that names it
unfoldable pub is_named : Option Fault → Bool
is_named None = false
is_named (Some f) = true

-- the data area of a read, if it takes one; one of length 0 is left out, as no fault can name its record
unfoldable pub area_taken : List Fault → DataArea → Option Area
area_taken fs nothing = None
area_taken fs empty = None
area_taken fs (data_of x) = Some (record { at = x.at; r = x.r; faulted = is_named (naming fs x.at x.r) })

-- the data area that a plan takes, "even if it stores no byte"
unfoldable pub area_in : List Fault → Plan → Option Area
area_in fs (answer a) = None
area_in fs (moves t) = area_taken fs t.area

-- ---- the sense of a cut

-- "Sense: byte 0 = 08, 2 = 40, 7 = 53, 8 to 12 track and R, 13 = 0, 15 to 17 restart displacement, 18 and 19 error displacement,
-- 20 to 22 pattern, 23 bit 7 if the count ran out first; others 00."
unfoldable pub cut_sense : Cut → List ℕ
cut_sense k =
    0x08 ∷ 0 ∷ 0x40 ∷ 0 ∷ 0 ∷ 0 ∷ 0 ∷ 0x53 ∷ address_bytes k.at ++ k.r ∷ 0 ∷ 0 ∷ three k.restart ++ two k.error ++ k.pattern
    ++ pick k.over 1 0 ∷ []
