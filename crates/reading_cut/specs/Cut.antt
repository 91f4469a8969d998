-- A cut in a reading, as the code has it: what it comes to, and the areas behind it.
use Rattle.std.specs.Prelude.{ℕ, ◌≤◌, ◌≡◌, List, ◌++◌, length, drop}
use Rattle.address.specs.declared.Extent.{Extent}
use Rattle.abstract_machine.specs.Reading.{restart, finish, stop}
use Rattle.command.specs.declared.Cut.{Cut}
use Rattle.location.specs.Low.{CswLow}
use Rattle.command.specs.Answer.{cut_of}
use Rattle.recovery.specs.Table.{rows}
use Rattle.recovery.specs.Recovery as Recovery
use Rattle.report.specs.declared.Told.{Told}
use Rattle.report.specs.Told.{Tells}
use Rattle.recovered.specs.Applied.{Applied, applied, given_of}
use Rattle.demand_three.specs.WholeReading.{Entry, Stopped, report_of, recover_cut}
use Rattle.reading_cut.specs.declared.Went.{Went}
use Rattle.reading_cut.specs.declared.Went.TheVariants.{Again, Closed, Halted}
use Rattle.reading_cut.specs.Entry.{entry_bytes, stopped_number}

-- the chain, storage and the restart areas
pub record Lendable (chain storage program restart_arguments : List ℕ) : Type 0 where
  pub chain_short : length chain ≤ 2048
  pub storage_short : length storage ≤ 65536
  pub program_full : length program ≡ 64
  pub restart_arguments_full : length restart_arguments ≡ 16

-- the areas that a reading may write; a cut is lent a part of the list
pub record Areas : Type 0 where
  pub storage : List ℕ
  pub program : List ℕ
  pub restart_arguments : List ℕ
  pub list : List ℕ

-- the same, from their bytes
abbrev pub lent_areas : (storage program restart_arguments list : List ℕ) → Areas
lent_areas st p a l = record { storage = st; program = p; restart_arguments = a; list = l }

-- ---- what it comes to

-- what the report of a cut tells, on every pack: it has no seek argument
abbrev pub CutTells : Cut → Told → Type 0
CutTells k t = (last : ℕ) (st : List ℕ) → Tells last (report_of (cut_of k st)) t

-- recovery by the report of a cut
abbrev pub RecoversCut : (chain : List ℕ) → Extent → Cut → (st p a : List ℕ) → Applied → Type 0
RecoversCut chain x k st p a out = out ≡ applied (Recovery.recover (given_of rows chain x) (report_of (cut_of k st)) st) st p a

-- what the definitions make of a cut, by what the code makes of it
abbrev pub AfterCut : (chain : List ℕ) → Extent → Cut → Areas → Went → Areas → Type 0
AfterCut chain x k z Again y =
    (t : Entry)
    × (recover_cut (given_of rows chain x) (cut_of k z.storage) ≡ restart t (record { program = y.program; restart_arguments = y.restart_arguments; storage = y.storage }))
    × (y.list ≡ entry_bytes t ++ drop 6 z.list)
AfterCut chain x k z (Closed w) y =
    (t : Entry) × (recover_cut (given_of rows chain x) (cut_of k z.storage) ≡ finish t (record { csw = w; storage = y.storage }))
    × (y.program ≡ z.program) × (y.restart_arguments ≡ z.restart_arguments) × (y.list ≡ entry_bytes t ++ drop 6 z.list)
AfterCut chain x k z (Halted n) y =
    (s : Stopped) × (recover_cut (given_of rows chain x) (cut_of k z.storage) ≡ stop s) × (n ≡ stopped_number s) × (y ≡ z)

-- what comes of a cut fits its bytes
abbrev pub WentLow : Went → Type 0
WentLow Again = Unit {0}
WentLow (Closed w) = CswLow w
WentLow (Halted n) = Unit {0}
