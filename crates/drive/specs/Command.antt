-- The drive's commands (document 01, "Drive"; document 02, the multitrack codes).
use Rattle.std.specs.Prelude.{ℕ, Bool, true, false, List, [], ◌∷◌, eqb}
use Rattle.base.specs.Choice.{pick}
use Rattle.drive.specs.declared.Command.{Command}
use Rattle.drive.specs.declared.Command.TheVariants.{NoOperation, Seek, SetMask, SetSector, SearchId, ReadHome, ReadRecord, SearchIdMultitrack, ReadMultitrack, Unlisted}

-- a read of a record: whether it takes the one just passed, and whether it moves count area, key and data
abbrev pub reads : Bool → Bool → Bool → Bool → Command
reads just counts keys datas = ReadRecord (record { just = just; counts = counts; keys = keys; datas = datas })

-- the same read over several tracks
abbrev pub reads_multitrack : Bool → Bool → Bool → Bool → Command
reads_multitrack just counts keys datas = ReadMultitrack (record { just = just; counts = counts; keys = keys; datas = datas })

-- "control 03 no-op, 07 seek .., 1F mask .., 23 sector ..; 31 search ID equal ..; reads 06 data, 0E key and data, 12 count,
-- 1E count, key and data, 1A home address"; "the multitrack codes 86, 8E, 92, 9E and B1", each with bit 0 on beside its single-track form
unfoldable pub codes : List (ℕ × Command)
codes =
    (0x03, NoOperation)
    ∷ (0x07, Seek)
    ∷ (0x1f, SetMask)
    ∷ (0x23, SetSector)
    ∷ (0x31, SearchId)
    ∷ (0x06, reads true false false true)
    ∷ (0x0e, reads true false true true)
    ∷ (0x12, reads false true false false)
    ∷ (0x1e, reads false true true true)
    ∷ (0x1a, ReadHome)
    ∷ (0xb1, SearchIdMultitrack)
    ∷ (0x86, reads_multitrack true false false true)
    ∷ (0x8e, reads_multitrack true false true true)
    ∷ (0x92, reads_multitrack false true false false)
    ∷ (0x9e, reads_multitrack false true true true)
    ∷ []

-- the command that a list has for a code
unfoldable pub look_up : List (ℕ × Command) → ℕ → Command
look_up [] code = Unlisted
look_up (x ∷ xs) code = pick (eqb x.0 code) x.1 (look_up xs code)

-- the command of a code; "Others, .. : command reject" are Unlisted
unfoldable pub command_of : ℕ → Command
command_of code = look_up codes code
