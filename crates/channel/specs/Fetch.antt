-- What the channel's code answers, in terms of the definitions.
use Rattle.std.specs.Prelude.{ℕ, ◌+◌, ◌%◌, ◌<◌, ◌≤◌, ◌≡◌, Bool, ◌&&◌, not, List, eqb, leb, length, Option, Some, None, Result, Ok, Err}
use Rattle.channel.specs.declared.Ccw.{Ccw}
use Rattle.channel.specs.declared.Location.{Location}
use Rattle.channel.specs.declared.Location.TheVariants.{Chain, Restart}
use Rattle.channel.specs.Ccw.{Lent, ccw_at, chains_data, suppresses, fetch, resolve}

-- "suppressed by SLI only with CD off"
unfoldable pub shows_length : Ccw → Bool
shows_length c = not (suppresses c && not (chains_data c))

-- A CCW's address is in three bytes, its count in two.
pub record InBytes (c : Ccw) : Type 0 where
  pub address : c.address < 16777216
  pub count : c.count < 65536

-- whether a CCW stands at an address of an area of n bytes
abbrev pub stands_at : ℕ → ℕ → Bool
stands_at n a = leb (a + 8) n && eqb (a % 8) 0

-- whether one stands at a place of the chain s and the restart program r
unfoldable pub stands_in : List ℕ → List ℕ → Location → Bool
stands_in s r (Chain a) = stands_at (length s) a
stands_in s r (Restart a) = stands_at (length r) a

-- the CCW there; bytes past the end of its area count as 0
unfoldable pub ccw_in : List ℕ → List ℕ → Location → Ccw
ccw_in s r (Chain a) = ccw_at s a
ccw_in s r (Restart a) = ccw_at r a

-- a place of a CCW that is wholly in its area
abbrev pub Inside : List ℕ → List ℕ → Location → Type 0
Inside s r (Chain a) = a + 8 ≤ length s
Inside s r (Restart a) = a + 8 ≤ length r

-- a CCW that stands at l is wholly in its area, and its address and count fit their bytes
abbrev pub FetchedFrom : List ℕ → List ℕ → Location → Option Ccw → Type 0
FetchedFrom s r l None = Unit {0}
FetchedFrom s r l (Some c) = Inside s r l × InBytes c

-- the same of the CCW that comes next, at its own place
abbrev pub GotInside : List ℕ → List ℕ → Result (Location × Ccw) Location → Type 0
GotInside s r (Err l) = Unit {0}
GotInside s r (Ok (l, c)) = Inside s r l × InBytes c

-- fetch and resolve read the chain and the restart program alone
abbrev pub Fetches : List ℕ → List ℕ → Location → Option Ccw → Type 0
Fetches s r l x = (p : Lent) → p.chain ≡ s → p.program ≡ r → x ≡ fetch p l

-- of resolve: from the CCW that was fetched last to the one at l
abbrev pub Resolves : List ℕ → List ℕ → Location → Location → Result (Location × Ccw) Location → Type 0
Resolves s r last l x = (p : Lent) → p.chain ≡ s → p.program ≡ r → x ≡ resolve p last l
