-- What a read leaves: how its data chain ended, and storage behind it.
use Rattle.std.specs.Prelude.{ℕ, ◌+◌, ◌<◌, ◌≡◌, List, ◌++◌, length, take, drop, Result, Ok, Err}
use Rattle.base.specs.Choice.{pick}
use Rattle.channel.specs.declared.Ccw.{Ccw}
use Rattle.channel.specs.declared.Location.{Location}
use Rattle.channel.specs.Ccw.{Lent, skips}
use Rattle.channel.specs.Store.{store}
use Rattle.channel.specs.Walk.{Walk, walked, checked, walk}
use Rattle.transfer.specs.declared.Moved.{Moved}

-- How the data chain of a read ended, and storage as the read left it.
pub record Left : Type 0 where
  pub moved : Result Moved Location
  pub storage : List ℕ

-- the same, from its parts
abbrev pub left : Result Moved Location → List ℕ → Left
left m st = record { moved = m; storage = st }

-- the bytes of a read, through a walk of its data chain
unfoldable pub carried : Walk → List ℕ → List ℕ → Left
carried (walked ps l c n over) bs st = left (Ok (record { at = l; ccw = c; left = n; over = over })) (store ps bs st)
carried (checked ps l) bs st = left (Err l) (store ps bs st)

-- a read whose first CCW is c at l
unfoldable pub transferred : Lent → Location → Ccw → List ℕ → List ℕ → Left
transferred p l c bs st = carried (walk p (length st) (length bs) l c c.count c.address) bs st

-- the read's code sees the chain and the restart program alone
abbrev pub Transfers : List ℕ → List ℕ → Location → Ccw → List ℕ → List ℕ → Left → Type 0
Transfers s r l c bs st x = (p : Lent) → p.chain ≡ s → p.program ≡ r → x ≡ transferred p l c bs st

-- the count left of the CCW that a read ended with is in two bytes, as its count was
abbrev pub CountLow : Result Moved Location → Type 0
CountLow (Ok m) = m.left < 0x10000
CountLow (Err l) = Unit {0}

-- n bytes under one CCW: at its address, or nowhere where it skips
unfoldable pub stretched : Ccw → List ℕ → ℕ → List ℕ → List ℕ
stretched c bs n st = pick (skips c) st (take c.address st ++ (take n bs ++ drop (c.address + n) st))
