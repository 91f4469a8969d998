-- "Only reads write storage." (document 01, "Bounds of the work")
use Rattle.std.specs.Prelude.{ℕ, ◌≡◌, Bool, true, false, List, Result, Ok, Err}
use Rattle.faults.specs.Faults.{Fault}
use Rattle.abstract_machine.specs.Machine.{goes, ends, cuts}
use Rattle.channel.specs.Ccw.{resolve}
use Rattle.drive.specs.declared.Command.{Command}
use Rattle.drive.specs.declared.Command.TheVariants.{NoOperation, Seek, SetMask, SetSector, SearchId, ReadHome, ReadRecord, SearchIdMultitrack, ReadMultitrack, Unlisted}
use Rattle.drive.specs.Command.{command_of}
use Rattle.drive.specs.Step.{State, Answer, Setting, step}
use Rattle.channel.specs.declared.Location.{Location}
use Rattle.channel.specs.declared.Ccw.{Ccw}

-- whether a command is a read: "06 data, 0E key and data, 12 count, 1E count, key and data", "1A home address", and 86, 8E, 92 and 9E
unfoldable pub is_read : Command → Bool
is_read NoOperation = false
is_read Seek = false
is_read SetMask = false
is_read SetSector = false
is_read SearchId = false
is_read Unlisted = false
is_read ReadHome = true
is_read (ReadRecord k) = true
is_read SearchIdMultitrack = false
is_read (ReadMultitrack k) = true

-- whether the CCW that comes next is a read; where none can be fetched, nothing is read
unfoldable pub reads_next : Result (Location × Ccw) Location → Bool
reads_next (Err l) = false
reads_next (Ok (l, c)) = is_read (command_of c.command)

-- storage behind a command, however it came out
unfoldable pub storage_behind : Answer → List ℕ
storage_behind (goes s) = s.storage
storage_behind (ends e) = e.storage
storage_behind (cuts k) = k.storage

-- a command that is no read leaves storage as it was
abbrev pub OnlyReadsWrite : Type 0
OnlyReadsWrite =
    (fs : List Fault) (w : Setting) (s : State) → reads_next (resolve w.lent s.last s.at) ≡ false → storage_behind (step fs w s) ≡ s.storage
