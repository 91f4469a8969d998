-- Where the bytes of a read stand in an image: a record's count area, key and data lie there behind each other.
use Rattle.std.specs.Prelude.{ℕ, ◌+◌, ◌-◌, ◌<◌, ◌≡◌, ◌⊎◌, List, get_or}
use Rattle.base.specs.Choice.{pick}
use Rattle.base.specs.Bytes.{be16_at}
use Rattle.pack.specs.declared.Place.{Place}
use Rattle.drive.specs.declared.Read.{Read}
use Rattle.drive.specs.declared.Command.TheVariants.{ReadRecord, ReadMultitrack}
use Rattle.drive.specs.Command.{command_of}

-- numbers that are bytes
abbrev pub AreBytes : List ℕ → Type 0
AreBytes s = (i : ℕ) → get_or s i 0 < 256

-- The eight bytes before a record's key are its count area: "(cylinder 2, head 2, record number R, key length, data length 2)".
pub record Counted (s : List ℕ) (p : Place) : Type 0 where
  pub start : ℕ
  pub key : p.key ≡ start + 8
  pub cylinder : p.at.cylinder ≡ be16_at s start
  pub head : p.at.head ≡ be16_at s (start + 2)
  pub number : p.r ≡ get_or s (start + 4) 0
  pub body : p.body ≡ p.key + get_or s (start + 5) 0
  pub next : p.next ≡ p.body + be16_at s (start + 6)

-- where the bytes of a read begin, and the place behind them
unfoldable pub from : Read → Place → ℕ
from k p = pick k.counts (p.key - 8) (pick k.keys p.key p.body)

-- the end of the data where they are read, else the end of the count area
unfoldable pub to : Read → Place → ℕ
to k p = pick k.datas p.next p.key

-- a code of a read of a record, on one track or over several
abbrev pub ReadsRecord : ℕ → Read → Type 0
ReadsRecord code r = (command_of code ≡ ReadRecord r) ⊎ (command_of code ≡ ReadMultitrack r)
