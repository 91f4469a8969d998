-- The error table (document 01, "Error table, first row that has all its bits on (byte.bit)").
use Rattle.std.specs.Prelude.{ℕ, Bool, ◌&&◌, List, [], ◌∷◌, eqb, get_or, Option, Some, None}
use Rattle.std.specs.Int.Bits.{bit_and}
use Rattle.base.specs.Choice.{pick}

-- the bits of sense 0, 1 and 2 that a row asks for, and its action; 6A is 0x16
pub record Row : Type 0 where
  pub zero : ℕ
  pub one : ℕ
  pub two : ℕ
  pub action : ℕ

-- a row from its three bit bytes and its action's code
abbrev pub row : ℕ → ℕ → ℕ → ℕ → Row
row a b c k = record { zero = a; one = b; two = c; action = k }

-- the table in document 01's order; "The overrun rows (0.5) are house rules."
unfoldable pub rows : List Row
rows =
    -- "0.0+1.6→1; 0.0→2; 0.1→3; 0.2→3"
    row 0x80 0x02 0 1
    ∷ row 0x80 0 0 2
    ∷ row 0x40 0 0 3
    ∷ row 0x20 0 0 3
    -- "0.3+1.0→1; 0.3→4"
    ∷ row 0x10 0x80 0 1
    ∷ row 0x10 0 0 4
    -- "0.4+1.0→1; 0.4+1.7+2.1→6; 0.4+1.7→6A; 0.4+2.1→5"
    ∷ row 0x08 0x80 0 1
    ∷ row 0x08 0x01 0x40 6
    ∷ row 0x08 0x01 0 0x16
    ∷ row 0x08 0 0x40 5
    -- "0.5+1.0→1; 0.5→4"
    ∷ row 0x04 0x80 0 1
    ∷ row 0x04 0 0 4
    -- "1.1→2; 1.2+1.7→9; 1.2→8; 1.4→2"
    ∷ row 0 0x40 0 2
    ∷ row 0 0x21 0 9
    ∷ row 0 0x20 0 8
    ∷ row 0 0x08 0 2
    -- "1.5+1.7→11; 1.5→10; 1.7→7; 2.3→3"
    ∷ row 0 0x05 0 11
    ∷ row 0 0x04 0 10
    ∷ row 0 0x01 0 7
    ∷ row 0 0 0x10 3
    ∷ []

-- whether all bits of b are on in a byte
unfoldable pub covers : ℕ → ℕ → Bool
covers byte b = eqb (bit_and byte b) b

-- a row that "has all its bits on" in sense 0, 1 and 2
unfoldable pub fits : List ℕ → Row → Bool
fits sense r = covers (get_or sense 0 0) r.zero && covers (get_or sense 1 0) r.one && covers (get_or sense 2 0) r.two

-- the action of the first row that fits
unfoldable pub action_for : List Row → List ℕ → Option ℕ
action_for [] sense = None
action_for (r ∷ rs) sense = pick (fits sense r) (Some r.action) (action_for rs sense)
