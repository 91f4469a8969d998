-- The calls by the number of a model: each that meets a track address takes it. "A model other than 1 or 11 is refused under number 1."
use Rattle.std.specs.Prelude.{ℕ, List, Result, Err}
use Rattle.base.specs.Choice.{opt}
use Rattle.questions.specs.declared.Question.TheVariants as Question
use Rattle.address.specs.Model.{model_of}
use Rattle.address.specs.Within.{extent_answer}
use Rattle.image.specs.Image.{image_answer}
use Rattle.faults.specs.Faults.{faults_answer}
use Rattle.trial.specs.Trial as Trial
use Rattle.recovered.specs.Applied.{Applied}
use Rattle.recover.specs.Recover as Recover
use Rattle.reading_runs.specs.Conclusion as Reading
use Rattle.whole_reading.specs.Reading.{reading_call}
use Rattle.questions.specs.declared.Question.{Question}

-- the image check
unfoldable pub image_answer_by : ℕ → (image : List ℕ) → Result Unit Question
image_answer_by model image = opt (model_of model) (Err Question.Areas) (λ m. image_answer m image)

-- the check of a fault list
unfoldable pub faults_answer_by : ℕ → (image faults : List ℕ) → Result Unit Question
faults_answer_by model image faults = opt (model_of model) (Err Question.Areas) (λ m. faults_answer m image faults)

-- the extent check
unfoldable pub extent_answer_by : ℕ → (extent : List ℕ) → Result Unit Question
extent_answer_by model extent = opt (model_of model) (Err Question.Areas) (λ m. extent_answer m extent)

-- a run of a chain
unfoldable pub run_call_by : ℕ → (chain arguments st image faults : List ℕ) → ℕ → Trial.Conclusion
run_call_by model chain arguments st image faults n = opt (model_of model) (Trial.refusal st Question.Areas) (λ m. Trial.run_call m chain arguments st image faults n)

-- a run of a restart program
unfoldable pub restart_call_by : ℕ → (chain arguments program restart_arguments st image faults : List ℕ) → Trial.Conclusion
restart_call_by model chain arguments program restart_arguments st image faults =
    opt (model_of model) (Trial.refusal st Question.Areas) (λ m. Trial.restart_call m chain arguments program restart_arguments st image faults)

-- recovery from a report
unfoldable pub recover_call_by : ℕ → (chain report extent st p a : List ℕ) → Applied
recover_call_by model chain report extent st p a =
    opt (model_of model) (Recover.refusal Question.Areas st p a) (λ m. Recover.recover_call m chain report extent st p a)

-- a whole reading
unfoldable pub reading_call_by : ℕ → (chain arguments st image faults extent : List ℕ) → ℕ → (p a l : List ℕ) → Reading.Conclusion
reading_call_by model chain arguments st image faults extent n p a l =
    opt (model_of model) (Reading.leaving (Err Question.Areas) st p a l) (λ m. reading_call m chain arguments st image faults extent n p a l)
