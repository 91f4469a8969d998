-- What a reading tells of a cut: a recovery in its list, or the number that stopped it.
use Rattle.std.specs.Prelude.{ℕ, List, [], ◌∷◌, ◌++◌}
use Rattle.questions.specs.Number.{number_of}
use Rattle.drive.specs.Drive.{address_bytes}
use Rattle.recovered.specs.Applied.{kind_of}
use Rattle.recovered.specs.Applied.{action_number}
use Rattle.demand_three.specs.WholeReading.{Entry, Stopped, by_action, by_question}

-- A recovery in the list: its action (05, or 15 for 5A), cylinder 2, head 2, record 1.
unfoldable pub entry_bytes : Entry → List ℕ
entry_bytes t = action_number (kind_of t.kind) ∷ address_bytes t.at ++ t.r ∷ []

-- "An action 2 or a number 9 met at a cut ends it as 'stopped', with that number"
unfoldable pub stopped_number : Stopped → ℕ
stopped_number (by_action n) = n
stopped_number (by_question q) = number_of q
