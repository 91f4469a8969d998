-- What the parts of the restart areas' code ensure: bytes in their places, and a program's front.
use Rattle.std.specs.Prelude.{ℕ, ◌+◌, ◌<◌, List, [], ◌∷◌, ◌++◌, set, Option, Some, None}
use Rattle.restart.specs.Restart.{ccw_bytes, mask_ccw, padded}

-- bytes one behind the other, from a place on
unfoldable pub placed : List ℕ → ℕ → List ℕ → List ℕ
placed s at [] = s
placed s at (b ∷ bs) = placed (set s at b) (at + 1) bs

-- "seek .., mask (omitted if none), sector ..", and nothing behind them
unfoldable pub begun : Option ℕ → List ℕ
begun m = padded 64 (ccw_bytes 0x07 0x2000 0x40 6 ++ mask_ccw m ++ ccw_bytes 0x23 0x2007 0x40 1)

-- the place behind them
unfoldable pub begun_to : Option ℕ → ℕ
begun_to None = 16
begun_to (Some m) = 24

-- the last TIC's address fits its bytes
abbrev pub TicLow : Option ℕ → Type 0
TicLow None = Unit {0}
TicLow (Some to) = to < 0x10000
