-- What can stop a reading, of the code: the contract of `whole_reading::read` equates what a call answers with `reading_call`.
use Rattle.std.specs.Prelude.{ℕ, ◌≡◌, ◌⊎◌, List, Ok}
use Rattle.questions.specs.declared.Question.TheVariants.{Agreement}
use Rattle.questions.specs.Number.{number_of}
use Rattle.address.specs.declared.Model.{Model}
use Rattle.reading_runs.specs.declared.How.TheVariants.{Stop}
use Rattle.reading_runs.specs.declared.Over as Code
use Rattle.whole_reading.specs.Reading.{reading_call}

-- "An action 2 or a number 9 met at a cut ends it as 'stopped', with that number": no call answers "stopped" with another number, whatever
-- it is lent.
abbrev pub CallStoppedByTwoOrNine : Type 0
CallStoppedByTwoOrNine =
    (model : Model) (chain arguments st image faults extent : List ℕ) (n : ℕ) (p a l : List ℕ) (o : Code.Over) (m : ℕ)
    → (reading_call model chain arguments st image faults extent n p a l).answer ≡ Ok o → o.how ≡ Stop m → (m ≡ 2) ⊎ (m ≡ number_of Agreement)
