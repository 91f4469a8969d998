-- The number that document 01 gives each question under "The questions, in number order".
use Rattle.std.specs.Prelude.{ℕ, Result, Ok, Err}
use Rattle.questions.specs.declared.Question.{Question}
use Rattle.questions.specs.declared.Question.TheVariants.{Areas, Image, Faults, Report, Extent, Row, Action, Format, Agreement}

-- "A no answers its number and changes nothing."
abbrev pub number_of : Question → ℕ
-- "Are all areas and limits as above?"
number_of Areas = 1
-- "Is the image well formed?"
number_of Image = 2
-- "Is each fault well formed and its record in the image?"
number_of Faults = 3
-- "Is the report well formed?"
number_of Report = 4
-- "Is the extent on the pack, first not after last?"
number_of Extent = 5
-- "Does a row match?"
number_of Row = 6
-- "Is the action other than 6, 6A, 7, 9, 11?", of which document 02 builds 9 and 11: "Number 7 remains for 6, 6A and 7."
number_of Action = 7
-- "For 5: is sense 7 = 53?"
number_of Format = 8
-- "Do report and chain agree"
number_of Agreement = 9

-- What a run or a reading returns as "limit", and a reading as "stopped": 1 to 63 are questions.
abbrev pub limit_return : ℕ
limit_return = 64

-- a reading's "stopped"; the number that stopped it stands in the answer area
abbrev pub stopped_return : ℕ
stopped_return = 65

-- A check's answer as a number: 0 accepted, else the refusing question's.
abbrev pub answer_of : Result Unit Question → ℕ
answer_of (Ok tt) = 0
answer_of (Err q) = number_of q
