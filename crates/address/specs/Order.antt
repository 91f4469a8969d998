-- Track addresses: cylinder and head.
use Rattle.std.specs.Prelude.{ℕ, Bool, ◌&&◌, ◌||◌, eqb, ltb, leb}
use Rattle.address.specs.declared.Address.{Address}

-- one track: the same cylinder and the same head
unfoldable pub same : Address → Address → Bool
same a b = eqb a.cylinder b.cylinder && eqb a.head b.head

-- the order of tracks: by cylinder, then by head
unfoldable pub before : Address → Address → Bool
before a b = ltb a.cylinder b.cylinder || (eqb a.cylinder b.cylinder && ltb a.head b.head)

-- a track of a pack with this last cylinder: "head 0 to 18"
unfoldable pub on_pack : ℕ → Address → Bool
on_pack last a = leb a.cylinder last && leb a.head 18
