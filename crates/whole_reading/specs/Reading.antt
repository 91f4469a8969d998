-- The whole reading as a call: the questions that it asks first, then what it comes to (document 01, "Bounds of the work").
use Rattle.std.specs.Prelude.{ℕ, ◌*◌, ◌≡◌, Bool, ◌&&◌, List, [], eqb, leb, length, Err}
use Rattle.base.specs.Choice.{pick, opt}
use Rattle.questions.specs.declared.Question.{Question}
use Rattle.questions.specs.Areas.{run_areas, restart_areas}
use Rattle.address.specs.declared.Model.{Model}
use Rattle.address.specs.Model.{last_of}
use Rattle.address.specs.Within.{extent_of, sound_extent}
use Rattle.pack.specs.Pack.{pack_of}
use Rattle.image.specs.Image.{well_formed}
use Rattle.faults.specs.Faults.{faults_at, sound_faults}
use Rattle.command.specs.Answer.{setting_with, lent_of}
use Rattle.recovery.specs.Table.{rows}
use Rattle.demand_three.specs.WholeReading.{whole_reading}
use Rattle.reading_runs.specs.Conclusion.{Conclusion, leaving, concluded}

-- "1. Are all areas and limits as above?" The list has 6 bytes for each recovery that the limit allows, or more.
unfoldable pub reading_areas : (chain arguments storage image faults extent limit program restart_arguments list : ℕ) → Bool
reading_areas chain arguments storage image faults extent limit program restart_arguments list =
    run_areas chain arguments storage image faults limit && eqb extent 8 && restart_areas program restart_arguments && leb (limit * 6) list

-- "A reading refuses only by questions 1, 2, 3 and 5, before it begins." "A no answers its number and changes nothing."
unfoldable pub reading_call : Model → (chain arguments st image faults extent : List ℕ) → ℕ → (p a l : List ℕ) → Conclusion
reading_call m chain arguments st image faults extent n p a l =
    pick (reading_areas (length chain) (length arguments) (length st) (length image) (length faults) (length extent) n (length p) (length a) (length l))
    (pick (well_formed (last_of m) image)
    (opt (faults_at faults 0) (leaving (Err Question.Faults) st p a l)
    (λ fs.
    pick (sound_faults (pack_of image) fs)
    (pick (sound_extent (extent_of m extent))
    (concluded (whole_reading fs (setting_with (last_of m) (lent_of chain arguments [] []) image) rows (extent_of m extent) n st) p a l) (leaving (Err Question.Extent) st p a l))
    (leaving (Err Question.Faults) st p a l)))
    (leaving (Err Question.Image) st p a l))
    (leaving (Err Question.Areas) st p a l)

-- The contract of the call: with these areas and this limit, on a pack of this model, it comes to c, its answer and what it leaves in the areas that it may write.
abbrev pub Answers : Model → (chain arguments st image faults extent : List ℕ) → ℕ → (p a l : List ℕ) → Conclusion → Type 0
Answers m chain arguments st image faults extent n p a l c = c ≡ reading_call m chain arguments st image faults extent n p a l
