-- Lines of a report's sense bits, and of the row of the error table that they match.
use Rattle.std.specs.Prelude.{ℕ, ◌/◌, ◌%◌, Bool, ◌&&◌, List, [], ◌∷◌, ◌++◌, eqb, get_or}
use Rattle.base.specs.Choice.{pick, opt}
use Rattle.base.specs.Bits.{bit_on}
use Rattle.text.specs.Text.{ascii, digits, number}
use Rattle.words.specs.Each.{each}
use Rattle.recovery.specs.Table.{Row, rows}
use Rattle.error_table.specs.Table.{first_row}
use Rattle.explain_names.specs.Names.{sense_name, action_name}

-- whether bit i is on, counted from bit 0 of the first byte on
unfoldable pub bit_in : List ℕ → ℕ → Bool
bit_in s i = bit_on (i % 8) (get_or s (i / 8) 0)

-- its byte and bit, as document 01 writes them
unfoldable pub bit_text : ℕ → List ℕ
bit_text i = digits 10 1 (i / 8) ++ ascii "." ++ digits 10 1 (i % 8)

-- ---- the sense bits

-- a bit of bytes 0 to 2 by its name, if it is on
unfoldable pub sense_line : List ℕ → ℕ → List ℕ
sense_line sense i = pick (bit_in sense i) (ascii "sense " ++ bit_text i ++ ascii ": " ++ sense_name i ++ ascii "\n") []

-- "23 bit 7 if the count ran out first", where "7 = 53": source document 002 calls the bit channel truncation
unfoldable pub truncation_line : List ℕ → List ℕ
truncation_line sense = pick (eqb (get_or sense 7 0) 0x53 && bit_on 7 (get_or sense 23 0)) (ascii "sense 23.7: channel truncation\n") []

-- a line for each bit that is on in bytes 0 to 2, then that of 23.7
unfoldable pub sense_lines : List ℕ → List ℕ
sense_lines sense = each 24 0 (sense_line sense) ++ truncation_line sense

-- ---- the row

-- a bit that a row asks for in bytes 0 to 2
unfoldable pub row_bit : List ℕ → ℕ → List ℕ
row_bit asked i = pick (bit_in asked i) (ascii " " ++ bit_text i) []

-- all bits that it asks for, in order
unfoldable pub row_bits : List ℕ → List ℕ
row_bits asked = each 24 0 (row_bit asked)

-- a row's number in two digits, and the bits that it asks for
unfoldable pub row_head : ℕ → List ℕ → List ℕ
row_head n asked = ascii "row" ++ number 10 2 n ++ ascii ":" ++ row_bits asked

-- a row in one line, with its action
unfoldable pub row_line : ℕ → Row → List ℕ
row_line n r = row_head n (r.zero ∷ r.one ∷ r.two ∷ []) ++ ascii ", action " ++ action_name r.action ++ ascii "\n"

-- the first row of the error table that fits, by its number from 1; its action is the recovery's (`action_of_first` in crate error_table)
unfoldable pub row_text : List ℕ → List ℕ
row_text sense = opt (first_row 1 rows sense) [] (λ x. row_line x.0 x.1)
