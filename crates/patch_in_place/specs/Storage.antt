-- Which bytes of storage the calls of recovery change: what `recover::recover` and `giruve_recover` leave, by their contracts, is patched as
-- `PatchesInPlace` has it (Rattle.recovery_storage.specs.Storage), for every model, chain, report, extent and storage.
use Rattle.std.specs.Prelude.{ℕ, ◌≡◌, Bool, true, false, ◌&&◌, ◌||◌, List, eqb, get_or, Some}
use Rattle.address.specs.declared.Model.{Model}
use Rattle.address.specs.Model.{model_of}
use Rattle.address.specs.Within.{extent_of}
use Rattle.recovery.specs.Table.{rows}
use Rattle.recovery.specs.Report.{Report, report_from}
use Rattle.recovery_storage.specs.Storage.{PatternStayed, Patched}
use Rattle.recovered.specs.declared.Kind.TheVariants.{Five, FiveA, Eight, Nine, Ten, TenA, Eleven}
use Rattle.recovered.specs.declared.Recovered.{Recovered}
use Rattle.recovered.specs.declared.Recovered.TheVariants.{Refused, ActionOne, ActionTwo, Repeat, CorrectedOnly, Finished, Restart}
use Rattle.recovered.specs.Applied.{Applied, given_of}
use Rattle.recover.specs.Recover.{recover_call}
use Rattle.giruve.specs.Model.{recover_call_by}
use Rattle.giruve.specs.Recover.{RecoveryHanded, recovery_handed}

-- A pattern byte of the report stayed at a; bytes that are no report have none.
pub record ReportStayed (m : Model) (chain report extent st : List ℕ) (a : ℕ) : Type 0 where
  pub told : Report
  pub is : report_from report ≡ Some told
  pub stayed : PatternStayed (given_of rows chain (extent_of m extent)) told st a

-- The same by the number of a model; another number than 1 and 11 has none.
pub record NumberStayed (model : ℕ) (chain report extent st : List ℕ) (a : ℕ) : Type 0 where
  pub of : Model
  pub known : model_of model ≡ Some of
  pub stayed : ReportStayed of chain report extent st a

-- an action 5 that corrects: "corrected only", "finished", and its restarts
unfoldable pub answer_corrects : Recovered → Bool
answer_corrects (Refused q) = false
answer_corrects ActionOne = false
answer_corrects ActionTwo = false
answer_corrects Repeat = false
answer_corrects CorrectedOnly = true
answer_corrects (Finished w) = true
answer_corrects (Restart Five) = true
answer_corrects (Restart FiveA) = true
answer_corrects (Restart Eight) = false
answer_corrects (Restart Nine) = false
answer_corrects (Restart Ten) = false
answer_corrects (Restart TenA) = false
answer_corrects (Restart Eleven) = false

-- of every call of `recover::recover`, whose contract equates what it answers and leaves with `recover_call`
abbrev pub CallPatchesInPlace : Type 0
CallPatchesInPlace =
    (m : Model) (chain report extent st p a : List ℕ) (out : Applied) → out ≡ recover_call m chain report extent st p a
    → Patched (ReportStayed m chain report extent st) (answer_corrects out.answer) st out.storage

-- the same answers for C: 0 is returned, and the action in the answer area, its second byte, is 05 or 15
unfoldable pub handed_corrects : RecoveryHanded → Bool
handed_corrects h = eqb h.number 0 && (eqb (get_or h.answer 1 0) 0x05 || eqb (get_or h.answer 1 0) 0x15)

-- of every call of `giruve_recover`, whose contract equates what it returns and leaves with `recovery_handed`
abbrev pub GiruveRecoverPatchesInPlace : Type 0
GiruveRecoverPatchesInPlace =
    (model : ℕ) (chain report extent st p a answer : List ℕ) (h : RecoveryHanded) → h ≡ recovery_handed answer st p a (recover_call_by model chain report extent st p a)
    → Patched (NumberStayed model chain report extent st) (handed_corrects h) st h.storage
