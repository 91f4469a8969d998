-- DEMAND 3 of the contract with the user (docs/PROOFS.md, "The demands"): "For every chain, arguments, storage, image, fault list, extent and command limit
-- that document 01 lets a reading begin with, and however often the faults cut the chain, the whole reading ends, neither as 'limit' nor as 'stopped'.
-- Then storage, ending address, unit and channel status and remaining count equal those of the faultless run (same chain, same pack, no faults)."
-- Document 02 adds: "only where the uncut one's last command is an 86 or 8E that ends with End of Cylinder, File Protected, or a step to a track that
-- isn't in the image may address and count left be those of the restart's 92". Here they are, if and only if the command before that one reads a
-- faulted data area.
--   Begins        what document 01 lets a reading begin with
--   Provided      "each faulted track lies in the extent, the faultless run sets no file mask in PCI fetch mode, and it ends within the chain's
--                 command limit and not by a program check"
--   end_of         what the faultless run ends with, or the same at the restart's 92
--   LikeFaultless the conclusion
use Rattle.std.specs.Prelude.{ℕ, ◌≡◌, Bool, true, false, ◌&&◌, List, [], ◌∷◌, map, length, take, Some, Result, Ok, Err}
use Rattle.base.specs.Choice.{pick, opt}
use Rattle.questions.specs.Areas.{run_areas}
use Rattle.address.specs.declared.Address.{Address}
use Rattle.address.specs.declared.Extent.{Extent}
use Rattle.address.specs.declared.Model.{Model}
use Rattle.address.specs.Model.{last_of}
use Rattle.address.specs.Order.{on_pack}
use Rattle.address.specs.Within.{extent_of, within, sound_extent}
use Rattle.pack.specs.Pack.{pack_of}
use Rattle.image.specs.Image.{well_formed}
use Rattle.faults.specs.Faults.{Fault, faults_at, sound_faults}
use Rattle.abstract_machine.specs.Machine.{ended, notes, Along, ends_behind}
use Rattle.abstract_machine.specs.Reading.{ends}
use Rattle.channel.specs.declared.Location.TheVariants.{Chain, Restart}
use Rattle.channel.specs.Ccw.{resolve}
use Rattle.channel.specs.Csw.{csw_at, program_check_status}
use Rattle.drive.specs.Drive.{Drive, address_bytes}
use Rattle.drive.specs.Step.{State, End, Reached, reaches, fails, take_from, Setting, plan, step, Area, area_in}
use Rattle.drive.specs.Run.{start, run_from}
use Rattle.restart.specs.Restart.{ccw_bytes, count_place, is_multitrack_data}
use Rattle.recovery.specs.Table.{rows}
use Rattle.recovery.specs.Recovery.{fetch_mode}
use Rattle.demand_three.specs.WholeReading.{Entry, Restarted, final, whole_reading}
use Rattle.channel.specs.declared.Location.{Location}
use Rattle.channel.specs.declared.Ccw.{Ccw}

-- the lent areas, and what the fault list says
pub record Lending : Type 0 where
  pub chain : List ℕ
  pub arguments : List ℕ
  pub storage : List ℕ
  pub image : List ℕ
  pub fault_list : List ℕ
  pub faults : List Fault
  pub extent : List ℕ
  pub limit : ℕ
  -- of the pack
  pub model : Model

-- what a run of the chain is told: the pack of the image, the chain and the arguments; there is no restart program
unfoldable pub setting_of : Lending → Setting
setting_of g = record {
  last = last_of g.model;
  pack = pack_of g.image;
  lent = record { chain = g.chain; arguments = g.arguments; program = []; restart_arguments = [] };
}

-- "A reading refuses only by questions 1, 2, 3 and 5, before it begins."
pub record Begins (g : Lending) : Type 0 where
  pub areas : run_areas (length g.chain) (length g.arguments) (length g.storage) (length g.image) (length g.fault_list) g.limit ≡ true
  pub image : well_formed (last_of g.model) g.image ≡ true
  pub listed : faults_at g.fault_list 0 ≡ Some g.faults
  pub faults : sound_faults (pack_of g.image) g.faults ≡ true
  pub extent : (length g.extent ≡ 8) × (sound_extent (extent_of g.model g.extent) ≡ true)

-- ---- the provisos

-- "each faulted track lies in the extent"
unfoldable pub all_inside : Extent → List Fault → Bool
all_inside x [] = true
all_inside x (f ∷ fs) = pick (within x f.at) (all_inside x fs) false

-- the faultless run: "the same chain, arguments, lent storage, image and limit, with no faults"
pub record Provided (g : Lending) (e : End) : Type 0 where
  pub inside : all_inside (extent_of g.model g.extent) g.faults ≡ true
  -- it "ends within the chain's command limit", with e
  pub faultless : run_from [] (setting_of g) g.limit (Chain 0) g.storage ≡ ended e
  -- "and not by a program check"
  pub sound : e.csw.channel ≡ program_check_status → ⊥
  -- it "sets no file mask in PCI fetch mode": before none of its commands is such a mask set
  pub unfetched : Along (step [] (setting_of g)) (λ s. fetch_mode s.drive.mask ≡ false) g.limit (start (Chain 0) g.storage)

-- ---- the exception

-- whether a command reads a faulted data area
unfoldable pub takes_faulted : Lending → State → Bool
takes_faulted g s = opt (area_in g.faults (plan (setting_of g) s)) false (λ a. a.faulted)

-- whether a multitrack command ends on the way to what it reads
unfoldable pub is_failed : Reached → Bool
is_failed (reaches d) = false
is_failed (fails k) = true

-- "an 86 or 8E that ends with End of Cylinder, File Protected, or a step to a track that isn't in the image". Right behind a read the drive's own
-- track is in the image, so that it is a step that fails.
unfoldable pub step_fails : Setting → Drive → Result (Location × Ccw) Location → Bool
step_fails w d (Err l) = false
step_fails w d (Ok (l, c)) = is_multitrack_data c.command && is_failed (take_from w.pack true d)

-- whether the command that comes next is such a one
unfoldable pub ends_by_step : Setting → State → Bool
ends_by_step w s = step_fails w s.drive (resolve w.lent s.last s.at)

-- whether the faultless run's last command is such a one, and the command before it reads a faulted data area
unfoldable pub ends_at_count : Lending → Bool
ends_at_count g = ends_behind (step [] (setting_of g)) (takes_faulted g) (ends_by_step (setting_of g)) false g.limit (start (Chain 0) g.storage)

-- "address and count left be those of the restart's 92", which moves nothing of its 8
unfoldable pub at_count : End → End
at_count e =
    record { csw = csw_at (Restart (count_place e.mask)) e.csw.unit e.csw.channel 8; sense = e.sense; mask = e.mask; storage = e.storage }

-- what the reading ends with, where the faultless run ends with e
unfoldable pub end_of : Lending → End → End
end_of g e = pick (ends_at_count g) (at_count e) e

-- ---- the conclusion

-- a record by its track and number
pub record Named : Type 0 where
  pub at : Address
  pub r : ℕ

-- the record of a recovery
unfoldable pub recovered : Entry → Named
recovered t = record { at = t.at; r = t.r }

-- "it reads a faulted data area each time a 06, 0E or 1E takes a record that the list names, even if it stores no byte"; "so does demand 3's
-- count of faulted data areas" with 86, 8E and 9E
unfoldable pub faulted_ones : List Area → List Named
faulted_ones [] = []
faulted_ones (a ∷ rest) = pick a.faulted (record { at = a.at; r = a.r } ∷ faulted_ones rest) (faulted_ones rest)

-- the faulted data areas that the faultless run reads, in order
unfoldable pub faulted_areas : Lending → List Named
faulted_areas g = faulted_ones (notes (step [] (setting_of g)) (λ s. area_in g.faults (plan (setting_of g) s)) g.limit (start (Chain 0) g.storage))

-- A restart's own seek: its program's first CCW is the seek whose argument stands at 2000, and that argument names a track that is on the pack
-- and in the extent.
pub record SeeksInside (x : Extent) (r : Restarted) : Type 0 where
  pub track : Address
  pub seek : take 8 r.program ≡ ccw_bytes 0x07 0x2000 0x40 6
  pub argument : take 6 r.restart_arguments ≡ 0 ∷ 0 ∷ address_bytes track
  pub is_on_pack : on_pack (last_of x.model) track ≡ true
  pub inside : within x track ≡ true

-- the same of each restart that was built
abbrev pub EachInside : Extent → List Restarted → Type 0
EachInside x [] = Unit {0}
EachInside x (r ∷ rs) = SeeksInside x r × EachInside x rs

-- The reading g ends like the faultless run, which ends with e.
pub record LikeFaultless (g : Lending) (e : End) : Type 0 where
  pub made : List Entry
  pub built : List Restarted
  -- it ends, neither as "limit" nor as "stopped", with the same CSW and storage, but for the exception
  pub same_end : whole_reading g.faults (setting_of g) rows (extent_of g.model g.extent) g.limit g.storage
      ≡ ends (record { made = made; built = built }) (final (end_of g e))
  -- its recoveries are the faulted data areas that the faultless run reads, "one for each time"
  pub same_areas : map recovered made ≡ faulted_areas g
  -- "no restart's own seek lies outside the extent"
  pub inside : EachInside (extent_of g.model g.extent) built

-- DEMAND 3. "The equality of cut and uncut chains leaves out overflow records, which the trial drive lacks." (document 02): none of its cuts is inside one.
abbrev pub DemandThree : Type 0
DemandThree = (g : Lending) (e : End) → Begins g → Provided g e → LikeFaultless g e
