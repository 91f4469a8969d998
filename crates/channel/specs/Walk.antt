-- The data chain of a read (document 01, "Channel"): which byte goes to which storage address, and how the read ends.
-- Reads of the drive and the recovery's walk are this one definition; it never sees a byte.
use Rattle.std.specs.Prelude.{ℕ, zero, suc, ◌+◌, Bool, true, false, ◌&&◌, ◌||◌, not, List, [], ◌∷◌, eqb, Option, Some, None, Result, Ok, Err}
use Rattle.base.specs.Choice.{pick}
use Rattle.channel.specs.declared.Ccw.{Ccw}
use Rattle.channel.specs.declared.Location.{Location}
use Rattle.channel.specs.Ccw.{Lent, chains_data, suppresses, skips, formed, next, resolve, storage_inside}

-- How a data chain goes: the storage address of each byte that a count takes, none for a skipped byte; and how the read ends.
pub data Walk : Type 0 where
  -- the places of the bytes; the current CCW with its location and its count left; whether bytes were left over
  walked : List (Option ℕ) → Location → Ccw → ℕ → Bool → Walk
  -- a program check at a data-chained CCW, with the CCW that was fetched last
  checked : List (Option ℕ) → Location → Walk

-- one place in front
unfoldable pub behind_place : Option ℕ → Walk → Walk
behind_place q (walked ps l c left over) = walked (q ∷ ps) l c left over
behind_place q (checked ps l) = checked (q ∷ ps) l

-- "unless a read skips it": a byte's place under a CCW
unfoldable pub place_under : Ccw → ℕ → Option ℕ
place_under c a = pick (skips c) None (Some a)

-- a CCW that a read may use, first or data-chained: its count, flags and range
unfoldable pub readable : ℕ → Ccw → Bool
readable size c = formed c && storage_inside size c

-- "When a count runs out under CD the next CCW is fetched immediately; its code matters only if TIC."
-- `on` goes on with it, its whole count and its address.
unfoldable pub chained : (Location → Ccw → ℕ → ℕ → Walk) → ℕ → Result (Location × Ccw) Location → Walk
chained on size (Err l) = checked [] l
chained on size (Ok (l, c)) = pick (readable size c) (on l c c.count c.address) (checked [] l)

-- n bytes are still to come, the current CCW has `left` of its count left, and the next byte's address is a.
unfoldable pub walk : Lent → ℕ → ℕ → Location → Ccw → ℕ → ℕ → Walk
walk p size zero l c left a = walked [] l c left false
walk p size (suc n) l c zero a = walked [] l c zero true
walk p size (suc n) l c (suc left) a =
    let here = walk p size n l c left (a + 1) in
    let there = chained (walk p size n) size (resolve p l (next l)) in
    behind_place (place_under c a) (pick (eqb left 0 && chains_data c) there here)

-- "At the read's end the current CCW decides: bytes left over or count left is incorrect length (40),
-- suppressed by SLI only with CD off."
unfoldable pub incorrect_length : Ccw → ℕ → Bool → Bool
incorrect_length c left over = (over || not (eqb left 0)) && not (suppresses c && not (chains_data c))
