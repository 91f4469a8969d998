-- What can stop a reading (document 01, "Bounds of the work").
use Rattle.std.specs.Prelude.{ℕ, ◌≡◌, ◌⊎◌, List}
use Rattle.questions.specs.declared.Question.TheVariants.{Agreement}
use Rattle.address.specs.declared.Extent.{Extent}
use Rattle.faults.specs.Faults.{Fault}
use Rattle.abstract_machine.specs.Reading.{Log, stops}
use Rattle.drive.specs.Step.{Cut, Setting}
use Rattle.recovery.specs.Table.{rows}
use Rattle.demand_three.specs.WholeReading.{Restarted, Entry, Stopped, by_action, by_question, whole_reading}

-- "An action 2 or a number 9 met at a cut ends it as 'stopped', with that number"
abbrev pub TwoOrNine : Stopped → Type 0
TwoOrNine n = (n ≡ by_action 2) ⊎ (n ≡ by_question Agreement)

-- A reading ends as "stopped" by nothing else, whatever the faults, the pack, the chain, the extent, the limit and storage are.
abbrev pub StoppedByTwoOrNine : Type 0
StoppedByTwoOrNine =
    (fs : List Fault) (w : Setting) (x : Extent) (limit : ℕ) (st : List ℕ) (g : Log Entry Restarted) (n : Stopped) (k : Cut)
    → whole_reading fs w rows x limit st ≡ stops g n k → TwoOrNine n
