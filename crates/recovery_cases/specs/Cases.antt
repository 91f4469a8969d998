-- Document 01, "Proved cases (T1 to T12)", as one table.
use Rattle.std.specs.Prelude.{ℕ, ◌≡◌, List, [], ◌∷◌, ◌++◌, set, replicate, Option, Some, None}
use Rattle.base.specs.Bytes.{two, three}
use Rattle.questions.specs.declared.Question.TheVariants as Question
use Rattle.address.specs.declared.Model.TheVariants.{One}
use Rattle.address.specs.Model.{last_of}
use Rattle.channel.specs.declared.Csw.{Csw}
use Rattle.restart.specs.declared.ReadCount.TheVariants.{Omitted}
use Rattle.restart.specs.Restart.{ccw_bytes, program_of, search_program, restart_arguments_of, search_arguments}
use Rattle.recovery.specs.Table.{rows, action_for}
use Rattle.recovery.specs.Report.{Report}
use Rattle.recovery.specs.Recovery as Recovery
use Rattle.recovery.specs.Recovery.{Given, refused, action_one, action_two, repeats, finished, restarts, five, eight, recover}

-- What recovery is given, the action that the error table chooses, and the answer.
pub record Case : Type 0 where
  pub chain : List ℕ
  pub report : Report
  pub storage : List ℕ
  -- the chosen action's code, if a row matches
  pub action : Option ℕ
  pub answer : Recovery.Recovery

-- ---- what the cases share

-- the extent is "to 009/18", from 000/00
unfoldable pub given : List ℕ → Given
given chain = record {
  last = last_of One;
  rows = rows;
  chain = chain;
  extent = record { first = record { cylinder = 0; head = 0 }; last = record { cylinder = 9; head = 18 }; model = One };
}

-- sense 0 to 2 and the two displacements; sense 7 is 53, track 000/01, R1, sector 0, pattern 010204
unfoldable pub sense : (zero one two restart error : ℕ) → List ℕ
sense s0 s1 s2 restart error =
    (s0 ∷ s1 ∷ s2 ∷ 0 ∷ 0 ∷ 0 ∷ 0 ∷ 0x53 ∷ []) ++ (0 ∷ 0 ∷ 0 ∷ 1 ∷ 1 ∷ 0 ∷ 0 ∷ []) ++ three restart ++ two error ++ (1 ∷ 2 ∷ 4 ∷ 0 ∷ [])

-- an address and a unit status; channel status and count left are 0
unfoldable pub csw : (address unit : ℕ) → Csw
csw address unit = record { address = address; unit = unit; channel = 0; count = 0 }

-- sense bytes, the CSW's address, a user's seek argument and the tries made; the read's first CCW is that at 0, and no mask was set
unfoldable pub reported : List ℕ → ℕ → Option (List ℕ) → ℕ → Report
reported s address seek tries = record { sense = s; csw = csw address 0x0e; first = 0; mask = None; seek = seek; tries = tries }

-- a read of four bytes, and a command with bit 3 on behind it
unfoldable pub one_read : List ℕ
one_read = ccw_bytes 0x06 0 0x40 4 ++ ccw_bytes 0x12 4 0 8

-- a read through two CCWs
unfoldable pub two_ccws : (count address : ℕ) → (count address : ℕ) → List ℕ
two_ccws n a m b = ccw_bytes 0x06 a 0x80 n ++ ccw_bytes 0x06 b 0 m

-- ---- kinds of cases

-- by sense 0 to 2 and the tries made
unfoldable pub by_sense : (zero one two tries : ℕ) → Option ℕ → Recovery.Recovery → Case
by_sense s0 s1 s2 tries action answer =
    record { chain = one_read; report = reported (sense s0 s1 s2 4 4) 8 None tries; storage = replicate 4 0; action = action; answer = answer }

-- with the cylinder of a user's seek argument, at head 7
unfoldable pub by_seek : ℕ → Recovery.Recovery → Case
by_seek cylinder answer = record {
  chain = one_read;
  report = reported (sense 0x00 0x20 0x00 0 0) 8 (Some (0 ∷ 0 ∷ two cylinder ++ two 7)) 0;
  storage = replicate 4 0;
  action = Some 8;
  answer = answer;
}

-- bytes at places of a storage of zeros
unfoldable pub with_bytes : List (ℕ × ℕ) → List ℕ → List ℕ
with_bytes [] st = st
with_bytes (x ∷ xs) st = with_bytes xs (set st x.0 x.1)

-- by the displacements and the chain of a read that ends there; the places that are corrected, with their pattern bytes
unfoldable pub by_places : (restart error : ℕ) → List ℕ → List (ℕ × ℕ) → Case
by_places restart error chain places = record {
  chain = chain;
  report = reported (sense 0x08 0x00 0x40 restart error) 16 None 0;
  storage = replicate 502 0;
  action = Some 5;
  answer = finished (csw 16 0x0c) (with_bytes places (replicate 502 0));
}

-- a restart of action 8 at a cylinder's head 0
unfoldable pub seeks : ℕ → Recovery.Recovery
seeks cylinder =
    restarts eight (program_of None (ccw_bytes 0x1a 0 0x50 5) 0) (restart_arguments_of (record { cylinder = cylinder; head = 0 }) None 0 []) (replicate 4 0)

-- ---- the table

-- T1 to T12; T12 has two rows
unfoldable pub cases : List Case
cases =
    -- "T1 08 00 40→5": the three pattern bytes are taken out, and the restart goes on with the command behind the read
    by_sense 0x08 0x00 0x40 0 (Some 5)
    (restarts five (search_program None Omitted 8) (search_arguments (record { cylinder = 0; head = 1 }) None 0 1) (1 ∷ 2 ∷ 4 ∷ 0 ∷ []))
    -- "T2 08 01 40→refusal 7; T3 08 80 40→1; T4 08 00 00→refusal 6"
    ∷ by_sense 0x08 0x01 0x40 0 (Some 6) (refused Question.Action)
    ∷ by_sense 0x08 0x80 0x40 0 (Some 1) action_one
    ∷ by_sense 0x08 0x00 0x00 0 None (refused Question.Row)
    -- "T5 00 20 00→8"
    ∷ by_seek 3 (seeks 4)
    -- "T6 80 02 00→1; T7 10 00 00, tries 9→repeat; T8 tries 10→1"
    ∷ by_sense 0x80 0x02 0x00 0 (Some 1) action_one
    ∷ by_sense 0x10 0x00 0x00 9 (Some 4) repeats
    ∷ by_sense 0x10 0x00 0x00 10 (Some 4) action_one
    -- "T9 80 and 3, CCWs of 78 at 100 and 2 at 500: places 177, 500, 501"
    ∷ by_places 80 3 (two_ccws 78 100 2 500) ((177, 1) ∷ (500, 2) ∷ (501, 4) ∷ [])
    -- "T10 the same with 80 and 1: only the first pattern byte, at 501"
    ∷ by_places 80 1 (two_ccws 78 100 2 500) ((501, 1) ∷ [])
    -- "T11 8 and 6, CCWs of 4 at 100, 4 at 102: only the third pattern byte counts, at 102"
    ∷ by_places 8 6 (two_ccws 4 100 4 102) ((102, 4) ∷ [])
    -- "T12 extent to 009/18, argument cylinder 9, action 8→2; cylinder 8→seek 009/00"
    ∷ by_seek 9 action_two
    ∷ by_seek 8 (seeks 9)
    ∷ []

-- ---- what is said of it

-- the action and the answer that the definitions give
unfoldable pub found : Case → Option ℕ × Recovery.Recovery
found k = (action_for rows k.report.sense, recover (given k.chain) k.report k.storage)

-- those of the table
unfoldable pub expected : Case → Option ℕ × Recovery.Recovery
expected k = (k.action, k.answer)

-- each case comes to what the table has
abbrev pub AllHold : List Case → Type 0
AllHold [] = Unit
AllHold (k ∷ ks) = (found k ≡ expected k) × AllHold ks
