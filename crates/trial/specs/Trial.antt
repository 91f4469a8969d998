-- The trial drive's calls: a run of a chain, and a run of a restart program (document 01, "Bounds of the work").
use Rattle.std.specs.Prelude.{ℕ, Bool, true, false, ◌&&◌, List, [], length, Option, Some, None, Result, Ok, Err}
use Rattle.base.specs.Choice.{pick, opt}
use Rattle.questions.specs.declared.Question.{Question}
use Rattle.questions.specs.Areas.{chain_fits, arguments_fit, storage_fits, image_fits, faults_fit, run_areas, restart_areas, restart_limit}
use Rattle.address.specs.declared.Model.{Model}
use Rattle.address.specs.Model.{last_of}
use Rattle.pack.specs.Pack.{pack_of}
use Rattle.image.specs.Image.{well_formed}
use Rattle.faults.specs.Faults.{faults_at, sound_faults}
use Rattle.abstract_machine.specs.Machine.{Result as RunResult, ended, cut, limit}
use Rattle.channel.specs.declared.Location.{Location}
use Rattle.channel.specs.declared.Location.TheVariants.{Chain, Restart}
use Rattle.channel.specs.declared.Csw.{Csw}
use Rattle.channel.specs.Ccw.{Lent, address_of}
use Rattle.drive.specs.Step.{End, Cut, no_sense, cut_sense}
use Rattle.drive.specs.Run.{Limit, run_from}
use Rattle.command.specs.Answer.{setting_with, lent_of}
use Rattle.trial.specs.Run.{ran_of, RanLow}
use Rattle.trial.specs.declared.Ran.{Ran}

-- ---- what a run shows

-- Whether it is "limit", the CSW, the 24 sense bytes, the file mask, and after a cut the address of the read's first CCW.
pub record Shown : Type 0 where
  pub limited : Bool
  pub csw : Csw
  pub sense : List ℕ
  pub mask : Option ℕ
  pub first : Option ℕ

-- "answers 'limit' with its last CSW"
unfoldable pub shown_of : RunResult Limit End Cut → Shown
shown_of (ended e) = record { limited = false; csw = e.csw; sense = e.sense; mask = e.mask; first = None }
shown_of (cut k) = record { limited = false; csw = k.csw; sense = cut_sense k; mask = k.mask; first = Some (address_of k.first) }
shown_of (limit m) = record { limited = true; csw = m.csw; sense = no_sense; mask = m.mask; first = None }

-- storage as the run leaves it
unfoldable pub storage_of : RunResult Limit End Cut → List ℕ
storage_of (ended e) = e.storage
storage_of (cut k) = k.storage
storage_of (limit m) = m.storage

-- ---- the calls

-- a refusal, or all that the run comes to
pub data Called : Type 0 where
  refused : Question → Called
  answered : RunResult Limit End Cut → Called

-- What a call answers, and storage behind it.
pub record Conclusion : Type 0 where
  pub answer : Called
  pub storage : List ℕ

-- "A no answers its number and changes nothing."
unfoldable pub refusal : List ℕ → Question → Conclusion
refusal st q = record { answer = refused q; storage = st }

-- what a run comes to, and storage as it leaves it
unfoldable pub concluded : RunResult Limit End Cut → Conclusion
concluded r = record { answer = answered r; storage = storage_of r }

-- "2. Is the image well formed? 3. Is each fault well formed and its record in the image?" Then the run, with the faults of the list.
unfoldable pub begin : ℕ → Lent → (image faults : List ℕ) → ℕ → Location → List ℕ → Conclusion
begin last p image faults n l st =
    pick (well_formed last image)
    (opt (faults_at faults 0) (refusal st Question.Faults)
    (λ fs. pick (sound_faults (pack_of image) fs) (concluded (run_from fs (setting_with last p image) n l st)) (refusal st Question.Faults)))
    (refusal st Question.Image)

-- A run of a chain on a pack of a model. "1. Are all areas and limits as above?"
unfoldable pub run_call : Model → (chain arguments st image faults : List ℕ) → ℕ → Conclusion
run_call m chain arguments st image faults n =
    pick (run_areas (length chain) (length arguments) (length st) (length image) (length faults) n)
    (begin (last_of m) (lent_of chain arguments [] []) image faults n (Chain 0) st)
    (refusal st Question.Areas)

-- question 1 for a restarted run: the five areas of a run and the two restart areas; its limit is not lent
unfoldable pub restarted_areas : (chain arguments program restart_arguments storage image faults : ℕ) → Bool
restarted_areas chain arguments program restart_arguments storage image faults =
    chain_fits chain && arguments_fit arguments && storage_fits storage && image_fits image && faults_fit faults && restart_areas program restart_arguments

-- A run of a restart program: "restart program, 64 bytes at 1000; restart arguments, 16 bytes at 2000".
unfoldable pub restart_call : Model → (chain arguments program restart_arguments st image faults : List ℕ) → Conclusion
restart_call m chain arguments program restart_arguments st image faults =
    pick (restarted_areas (length chain) (length arguments) (length program) (length restart_arguments) (length st) (length image) (length faults))
    (begin (last_of m) (lent_of chain arguments program restart_arguments) image faults restart_limit (Restart 0) st)
    (refusal st Question.Areas)

-- ---- the code's answers

-- an answer of the code, with storage behind it
abbrev pub called_of : Result Ran Question → List ℕ → Called
called_of (Err q) st = refused q
called_of (Ok r) st = answered (ran_of r st)

-- the same, with that storage beside it
abbrev pub conclusion_of : Result Ran Question → List ℕ → Conclusion
conclusion_of t st = record { answer = called_of t st; storage = st }

-- what a call shows of a run fits its bytes
abbrev pub TrialLow : Result Ran Question → Type 0
TrialLow (Err q) = Unit {0}
TrialLow (Ok r) = RanLow r
