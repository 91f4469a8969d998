-- Demand 3 is not empty: readings that meet its conditions. Document 01's worked example, with the one fault that it has and with a second one; a chain of
-- 86 that goes on to the next head, with a fault on each; the same with one 86 more, which ends by a step right behind a faulted read; and the worked
-- example with both faults on the last cylinder of model 11.
--   worked, over_heads  the lent areas, with a list of faults
--   Example             faults and areas, the end of the faultless run, and what the reading does
--   one_cut, two_cuts   the worked example
--   twoHeads, pastHeads the chains over two heads
--   model_eleven        the worked example on model 11
--   Instance            the reading meets the conditions of demand 3, and does so
--   NoImageOfModelOne   on model 1 an image is refused
use Rattle.std.specs.Prelude.{ℕ, ◌≡◌, List, [], ◌∷◌, ◌++◌, map, length, replicate, None, Err}
use Rattle.base.specs.Bytes.{two}
use Rattle.questions.specs.declared.Question.TheVariants as Question
use Rattle.address.specs.declared.Address.{Address}
use Rattle.address.specs.declared.Model.{Model}
use Rattle.address.specs.declared.Model.TheVariants.{One, Eleven}
use Rattle.address.specs.Model.{last_of}
use Rattle.image.specs.Image.{image_answer}
use Rattle.faults.specs.Faults.{Fault}
use Rattle.drive.specs.Drive.{address_bytes}
use Rattle.channel.specs.declared.Csw.{Csw}
use Rattle.drive.specs.Step.{End, no_sense, not_found, check_sense}
use Rattle.recovery.specs.Recovery.{Kind, five, five_a}
use Rattle.demand_three.specs.WholeReading.{Entry}
use Rattle.demand_three.specs.Demand.{Lending, Begins, Provided, end_of, recovered, faulted_areas, LikeFaultless}

-- ---- the lent areas

-- seek, search ID equal, TIC to the search
unfoldable pub finding : List ℕ
finding = (0x07 ∷ 0 ∷ 0 ∷ 0 ∷ 0x40 ∷ 0 ∷ 0 ∷ 6 ∷ []) ++ (0x31 ∷ 0 ∷ 0 ∷ 6 ∷ 0x40 ∷ 0 ∷ 0 ∷ 5 ∷ []) ++ (0x08 ∷ 0 ∷ 0 ∷ 8 ∷ 0 ∷ 0 ∷ 0 ∷ 0 ∷ [])

-- a read of four bytes to a place, with these flags
unfoldable pub reading : (command place flags : ℕ) → List ℕ
reading command place flags = command ∷ 0 ∷ 0 ∷ place ∷ flags ∷ 0 ∷ 0 ∷ 4 ∷ []

-- the track of this cylinder with this head
abbrev pub track : (cylinder head : ℕ) → Address
track cylinder head = record { cylinder = cylinder; head = head }

-- the seek address of head 1, then the ID of its R1
unfoldable pub arguments : (cylinder : ℕ) → List ℕ
arguments cylinder = 0 ∷ 0 ∷ address_bytes (track cylinder 1) ++ address_bytes (track cylinder 1) ++ 1 ∷ []

-- the home address of a track, then its R0
unfoldable pub begun : (cylinder head : ℕ) → List ℕ
begun cylinder head = 0x01 ∷ 0 ∷ 5 ∷ 0 ∷ address_bytes (track cylinder head) ++ 0x02 ∷ 0 ∷ 16 ∷ address_bytes (track cylinder head) ++ 0 ∷ 0 ∷ 0 ∷ 8 ∷ replicate 8 0

-- a record of four bytes on that track
unfoldable pub recorded : (cylinder head r : ℕ) → List ℕ → List ℕ
recorded cylinder head r body = 0x02 ∷ 0 ∷ 12 ∷ address_bytes (track cylinder head) ++ r ∷ 0 ∷ 0 ∷ 4 ∷ body

-- the data of the two records
unfoldable pub first_body : List ℕ
first_body = 0xc1 ∷ 0xc2 ∷ 0xc3 ∷ 0xc4 ∷ []

-- of the second one
unfoldable pub second_body : List ℕ
second_body = 0xd1 ∷ 0xd2 ∷ 0xd3 ∷ 0xd4 ∷ []

-- "20 (10: cylinder 2, head 2, R from 1, error displacement 2, pattern 3)"
unfoldable pub fault_fields : List Fault → List ℕ
fault_fields [] = []
fault_fields (f ∷ fs) = 0x20 ∷ 0 ∷ 10 ∷ address_bytes f.at ++ f.r ∷ two f.displacement ++ f.pattern ++ fault_fields fs

-- reads behind the search, on an image of a model, with these faults; the extent is from head 1 of a cylinder to the last head
unfoldable pub lending : Model → (cylinder : ℕ) (reads image : List ℕ) (last : ℕ) → List Fault → Lending
lending m cylinder reads image last fs = record {
  chain = finding ++ reads;
  arguments = arguments cylinder;
  storage = replicate 4096 0;
  image = image;
  fault_list = fault_fields fs;
  faults = fs;
  extent = address_bytes (track cylinder 1) ++ address_bytes (track cylinder last);
  limit = 4096;
  model = m;
}

-- document 01's example: two 06, and R1 and R2 on one track
unfoldable pub worked : Model → (cylinder : ℕ) → List Fault → Lending
worked m cylinder =
    lending m cylinder (reading 0x06 0 0x40 ++ reading 0x06 4 0)
    (begun cylinder 1 ++ recorded cylinder 1 1 first_body ++ recorded cylinder 1 2 second_body) 1

-- 86 in their place, and R1 on each of two heads
unfoldable pub over_heads : (reads : List ℕ) → List Fault → Lending
over_heads reads = lending One 0 reads (begun 0 1 ++ recorded 0 1 1 first_body ++ begun 0 2 ++ recorded 0 2 1 second_body) 2

-- the first record: displacement 3, pattern 000100
unfoldable pub first_fault : (cylinder : ℕ) → Fault
first_fault cylinder = record { at = track cylinder 1; r = 1; displacement = 3; pattern = 0 ∷ 1 ∷ 0 ∷ [] }

-- the second one: displacement 2, pattern 8001FF, whose last byte lies behind the data area
unfoldable pub second_fault : (cylinder head r : ℕ) → Fault
second_fault cylinder head r = record { at = track cylinder head; r = r; displacement = 2; pattern = 0x80 ∷ 1 ∷ 0xff ∷ [] }

-- ---- what the readings come to

-- an end with both records in storage
unfoldable pub end_with : Csw → List ℕ → End
end_with w sense = record { csw = w; sense = sense; mask = None; storage = first_body ++ second_body ++ replicate 4088 0 }

-- the CSW at the end of the last read
unfoldable pub last_read : Csw
last_read = record { address = 0x28; unit = 0x0c; channel = 0; count = 0 }

-- a recovery of a record
abbrev pub entry : Kind → (cylinder head r : ℕ) → Entry
entry kind cylinder head r = record { kind = kind; at = track cylinder head; r = r }

-- The lent areas, the end of the faultless run, and what the reading does: its recoveries, how many restarts it builds, and its CSW.
pub record Example : Type 0 where
  pub lent : Lending
  pub faultless : End
  pub made : List Entry
  pub restarts : ℕ
  pub csw : Csw

-- document 01's example: one recovery, by a restart (5A)
unfoldable pub one_cut : Example
one_cut = record {
  lent = worked One 0 (first_fault 0 ∷ []);
  faultless = end_with last_read no_sense;
  made = entry five_a 0 1 1 ∷ [];
  restarts = 1;
  csw = last_read;
}

-- with the second fault: two recoveries but one restart, as the second cut, at the last 06, is finished
unfoldable pub two_cuts : Example
two_cuts = record {
  lent = worked One 0 (first_fault 0 ∷ second_fault 0 1 2 ∷ []);
  faultless = end_with last_read no_sense;
  made = entry five_a 0 1 1 ∷ entry five 0 1 2 ∷ [];
  restarts = 1;
  csw = last_read;
}

-- over two heads: the 92 of the first restart steps, and the second cut, on the next head, is finished
unfoldable pub two_heads : Example
two_heads = record {
  lent = over_heads (reading 0x86 0 0x40 ++ reading 0x86 4 0) (first_fault 0 ∷ second_fault 0 2 1 ∷ []);
  faultless = end_with last_read no_sense;
  made = entry five_a 0 1 1 ∷ entry five 0 2 1 ∷ [];
  restarts = 1;
  csw = last_read;
}

-- with a third 86, whose step comes to no track: the 92 of the second restart ends the reading
unfoldable pub past_heads : Example
past_heads = record {
  lent = over_heads (reading 0x86 0 0x40 ++ reading 0x86 4 0x40 ++ reading 0x86 8 0) (first_fault 0 ∷ second_fault 0 2 1 ∷ []);
  faultless = end_with (record { address = 0x30; unit = 0x0e; channel = 0; count = 4 }) (check_sense not_found);
  made = entry five_a 0 1 1 ∷ entry five_a 0 2 1 ∷ [];
  restarts = 2;
  csw = record { address = 0x1028; unit = 0x0e; channel = 0; count = 8 };
}

-- the worked example with both faults, on the last cylinder of a pack of model 11
unfoldable pub model_eleven : Example
model_eleven = record {
  lent = worked Eleven (last_of Eleven) (first_fault (last_of Eleven) ∷ second_fault (last_of Eleven) 1 2 ∷ []);
  faultless = end_with last_read no_sense;
  made = entry five_a (last_of Eleven) 1 1 ∷ entry five (last_of Eleven) 1 2 ∷ [];
  restarts = 1;
  csw = last_read;
}

-- The reading meets the conditions of demand 3.
pub record Instance (x : Example) : Type 0 where
  pub begins : Begins x.lent
  pub provided : Provided x.lent x.faultless
  -- the faulted data areas that the faultless run reads are those of the recoveries
  pub areas : faulted_areas x.lent ≡ map recovered x.made
  -- so it ends like the faultless run, with these recoveries, so many restarts and this CSW
  pub like : LikeFaultless x.lent x.faultless
  pub recoveries : like.made ≡ x.made
  pub restarts : length like.built ≡ x.restarts
  pub shows : (end_of x.lent x.faultless).csw ≡ x.csw

-- On model 1 its image is refused, by question 2.
abbrev pub NoImageOfModelOne : Example → Type 0
NoImageOfModelOne x = image_answer One x.lent.image ≡ Err Question.Image
