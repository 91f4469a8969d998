-- The code's rows and answers as those of the definitions, and what the choice of an action ensures.
use Rattle.std.specs.Prelude.{ℕ, ◌+◌, ◌≡◌, List, [], ◌∷◌, get_or, Option, Some, None}
use Rattle.base.specs.Choice.{pick}
use Rattle.recovery.specs.Table as Table
use Rattle.error_table.specs.declared.Action.{Action}
use Rattle.error_table.specs.declared.Action.TheVariants.{One, Two, Three, Four, Five, Six, SixA, Seven, Eight, Nine, Ten, Eleven}
use Rattle.error_table.specs.declared.Row.{Row}

-- an action's code in the table of the definitions
abbrev pub code_of : Action → ℕ
code_of One = 1
code_of Two = 2
code_of Three = 3
code_of Four = 4
code_of Five = 5
code_of Six = 6
code_of SixA = 0x16
code_of Seven = 7
code_of Eight = 8
code_of Nine = 9
code_of Ten = 10
code_of Eleven = 11

-- a row of the code's table
abbrev pub row_of : Row → Table.Row
row_of r = Table.row r.zero r.one r.two (code_of r.action)

-- the first row that fits, with its number, where the first of the rows has number n
unfoldable pub first_row : ℕ → List Table.Row → List ℕ → Option (ℕ × Table.Row)
first_row n [] sense = None
first_row n (r ∷ rs) sense = pick (Table.fits sense r) (Some (n, r)) (first_row (n + 1) rs sense)

-- the row that the code found, with its number; none where no row fits
abbrev pub matched_of : Option (ℕ × Row) → Option (ℕ × Table.Row)
matched_of (Some (n, r)) = Some (n, row_of r)
matched_of None = None

-- the row of the error table for all sense bytes that begin with these three
abbrev pub Matches : ℕ → ℕ → ℕ → Option (ℕ × Row) → Type 0
Matches s0 s1 s2 m =
    (sense : List ℕ) → get_or sense 0 0 ≡ s0 → get_or sense 1 0 ≡ s1 → get_or sense 2 0 ≡ s2 → matched_of m ≡ first_row 1 Table.rows sense

-- the action's code, or none where no row fits
abbrev pub chosen_of : Option Action → Option ℕ
chosen_of (Some a) = Some (code_of a)
chosen_of None = None

-- the action of the error table for all sense bytes that begin with these three
abbrev pub Chooses : ℕ → ℕ → ℕ → Option Action → Type 0
Chooses s0 s1 s2 r =
    (sense : List ℕ) → get_or sense 0 0 ≡ s0 → get_or sense 1 0 ≡ s1 → get_or sense 2 0 ≡ s2 → chosen_of r ≡ Table.action_for Table.rows sense
