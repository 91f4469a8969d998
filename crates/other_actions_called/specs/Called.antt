-- The calls of recovery with and without overflow actions 9 and 11 (Rattle.other_actions.specs.Other): "Every report whose row gives another action gets its
-- old answer, proved over all reports."; and storage and both restart areas with it.
--   call_without          the call without them: the questions before the row, then recovery without them
--   call_without_by       the same by the number of a model
--   ReportGivesOther      the row of the bytes of a report gives neither
--   CallStays             what `recover::recover` answers and leaves then
--   GiruveRecoverStays    what `giruve_recover` returns and leaves
use Rattle.std.specs.Prelude.{ℕ, ◌≡◌, List, length, Some}
use Rattle.base.specs.Choice.{pick, opt}
use Rattle.questions.specs.declared.Question.TheVariants as Question
use Rattle.address.specs.declared.Model.{Model}
use Rattle.address.specs.Model.{model_of}
use Rattle.address.specs.Within.{extent_of, sound_extent}
use Rattle.recovery.specs.Table.{rows}
use Rattle.recovery.specs.Report.{Report, report_from}
use Rattle.other_actions.specs.Other.{recover_without, GivesOther}
use Rattle.recovered.specs.Applied.{Applied, applied, given_of}
use Rattle.recover.specs.Recover.{refusal, recover_areas, recover_call}
use Rattle.giruve.specs.Model.{recover_call_by}
use Rattle.giruve.specs.Recover.{RecoveryHanded, recovery_handed}

-- "1. Are all areas and limits as above?", "4. Is the report well formed? 5. Is the extent on the pack, first not after last?" Then recovery without 9 and 11.
unfoldable pub call_without : Model → (chain report extent st p a : List ℕ) → Applied
call_without m chain report extent st p a =
    pick (recover_areas (length chain) (length st) (length p) (length a) (length extent))
    (opt (report_from report) (refusal Question.Report st p a)
    (λ r.
    pick (sound_extent (extent_of m extent)) (applied (recover_without (given_of rows chain (extent_of m extent)) r st) st p a)
    (refusal Question.Extent st p a)))
    (refusal Question.Areas st p a)

-- "A model other than 1 or 11 is refused under number 1."
unfoldable pub call_without_by : ℕ → (chain report extent st p a : List ℕ) → Applied
call_without_by model chain report extent st p a = opt (model_of model) (refusal Question.Areas st p a) (λ m. call_without m chain report extent st p a)

-- bytes that are no report have no row
abbrev pub ReportGivesOther : (report : List ℕ) → Type 0
ReportGivesOther report = (r : Report) → report_from report ≡ Some r → GivesOther rows r

-- of every call of `recover::recover`, whose contract equates what it answers and leaves with `recover_call`
abbrev pub CallStays : Type 0
CallStays =
    (m : Model) (chain report extent st p a : List ℕ) (out : Applied) → out ≡ recover_call m chain report extent st p a → ReportGivesOther report
    → out ≡ call_without m chain report extent st p a

-- of every call of `giruve_recover`, whose contract equates what it returns and leaves with `recovery_handed`
abbrev pub GiruveRecoverStays : Type 0
GiruveRecoverStays =
    (model : ℕ) (chain report extent st p a answer : List ℕ) (h : RecoveryHanded) → h ≡ recovery_handed answer st p a (recover_call_by model chain report extent st p a)
    → ReportGivesOther report → h ≡ recovery_handed answer st p a (call_without_by model chain report extent st p a)
