-- Recovery as a call: the questions that it asks first, and the areas behind its answer.
use Rattle.std.specs.Prelude.{ℕ, ◌≡◌, Bool, ◌&&◌, List, eqb, ltb, length}
use Rattle.base.specs.Choice.{pick, opt}
use Rattle.questions.specs.declared.Question.{Question}
use Rattle.questions.specs.Areas.{chain_fits, storage_fits, restart_areas}
use Rattle.address.specs.declared.Extent.{Extent}
use Rattle.address.specs.declared.Model.{Model}
use Rattle.address.specs.Model.{last_of}
use Rattle.address.specs.Within.{extent_of, sound_extent}
use Rattle.recovery.specs.Table.{rows}
use Rattle.recovery.specs.Report.{Report, report_from}
use Rattle.recovery.specs.Recovery as Recovery
use Rattle.error_table.specs.declared.Action.{Action}
use Rattle.error_table.specs.Table.{code_of}
use Rattle.report.specs.declared.Told.{Told}
use Rattle.report.specs.Told.{Tells}
use Rattle.recovered.specs.declared.Recovered.{Recovered}
use Rattle.recovered.specs.declared.Recovered.TheVariants.{Refused, Repeat, ActionOne}
use Rattle.recovered.specs.Applied.{Applied, with, applied, given_of}
use Rattle.decision.specs.declared.Decision.{Decision}
use Rattle.decision.specs.Decision.{done, Decides}

-- "A no answers its number and changes nothing."
unfoldable pub refusal : Question → (st p a : List ℕ) → Applied
refusal q st p a = with (Refused q) st p a

-- "1. Are all areas and limits as above?"
unfoldable pub recover_areas : (chain storage program restart_arguments extent : ℕ) → Bool
recover_areas chain storage program restart_arguments extent = chain_fits chain && storage_fits storage && restart_areas program restart_arguments && eqb extent 8

-- "4. Is the report well formed? 5. Is the extent on the pack, first not after last?" Then the questions of `recover`.
unfoldable pub recover_call : Model → (chain report extent st p a : List ℕ) → Applied
recover_call m chain report extent st p a =
    pick (recover_areas (length chain) (length st) (length p) (length a) (length extent))
    (opt (report_from report) (refusal Question.Report st p a)
    (λ r.
    pick (sound_extent (extent_of m extent)) (applied (Recovery.recover (given_of rows chain (extent_of m extent)) r st) st p a)
    (refusal Question.Extent st p a)))
    (refusal Question.Areas st p a)

-- ---- once these questions are answered

-- an action of the error table
abbrev pub ActsBy : Action → (chain : List ℕ) → ℕ → Told → Decision → Type 0
ActsBy action chain size t d = Decides (λ g r st. Recovery.act g r st (code_of action)) chain size t d

-- the whole recovery in an extent, of every report that tells this, and of every storage of this length
abbrev pub DecidesIn : Extent → (chain : List ℕ) → ℕ → Told → Decision → Type 0
DecidesIn x chain size t d =
    (r : Report) (st p a : List ℕ) → Tells (last_of x.model) r t → length st ≡ size → done d st p a ≡ applied (Recovery.recover (given_of rows chain x) r st) st p a

-- the same carried out: the answer, and the areas behind it
abbrev pub Recovers : Extent → (chain : List ℕ) → Told → (st p a : List ℕ) → Applied → Type 0
Recovers x chain t st p a out = (r : Report) → Tells (last_of x.model) r t → out ≡ applied (Recovery.recover (given_of rows chain x) r st) st p a

-- "3 repeats if tries are 0, 4 if under 10, else 1."
unfoldable pub tried_of : ℕ → ℕ → Recovered
tried_of tries limit = pick (ltb tries limit) Repeat ActionOne
