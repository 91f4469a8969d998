-- The commands that move no byte of storage, as the code has them.
use Rattle.std.specs.Prelude.{ℕ, ◌≡◌, Bool, true, false, List}
use Rattle.base.specs.Bytes.{be16_at}
use Rattle.address.specs.declared.Address.{Address}
use Rattle.channel.specs.declared.Ccw.{Ccw}
use Rattle.channel.specs.declared.Location.{Location}
use Rattle.channel.specs.Ccw.{Lent, argument}
use Rattle.drive.specs.declared.Command.{Command}
use Rattle.drive.specs.declared.Command.TheVariants.{NoOperation, Seek, SetMask, SetSector, SearchId, ReadHome, ReadRecord, SearchIdMultitrack, ReadMultitrack, Unlisted}
use Rattle.drive.specs.Drive as Abstract
use Rattle.drive.specs.Step as Step
use Rattle.command.specs.declared.Answer.{Answer}
use Rattle.command.specs.Answer.{answer_of, setting_with}

-- a plan of the definitions for every storage, which leaves storage as it is
abbrev pub Plans : (List ℕ → Step.Plan) → Answer → Type 0
Plans plan r = (st : List ℕ) → plan st ≡ Step.answer (answer_of r st)

-- The command k of the CCW c at l, on the drive d, on a pack with this last cylinder: it leaves storage as it is, whatever that is.
abbrev pub Performs : ℕ → List ℕ → List ℕ → List ℕ → Location → Ccw → Command → Abstract.Drive → Answer → Type 0
Performs last arguments restart_arguments image l c k d r =
    (p : Lent) (st : List ℕ) → p.arguments ≡ arguments → p.restart_arguments ≡ restart_arguments
    → Step.perform (setting_with last p image) l c d st k ≡ Step.answer (answer_of r st)

-- the same, whatever the last cylinder: no command but the seek asks for it
abbrev pub PerformsAlways : List ℕ → List ℕ → List ℕ → Location → Ccw → Command → Abstract.Drive → Answer → Type 0
PerformsAlways arguments restart_arguments image l c k d r = (last : ℕ) → Performs last arguments restart_arguments image l c k d r

-- two bytes of a CCW's argument
abbrev pub ArgumentWord : List ℕ → List ℕ → Location → Ccw → ℕ → ℕ → Type 0
ArgumentWord s r l c k n = (p : Lent) → p.arguments ≡ s → p.restart_arguments ≡ r → n ≡ be16_at (argument p l c) k

-- every seek whose argument begins with the number n, which must be 0, and names the track a, on a pack with this last cylinder
abbrev pub Seeks : ℕ → ℕ → Address → Location → Ccw → Abstract.Drive → Answer → Type 0
Seeks last n a l c d r = (g : List ℕ) → be16_at g 0 ≡ n → Step.sought g ≡ a → Plans (λ st. Step.plan_seek l c d st last g) r

-- the commands that move no byte of storage, on one track
unfoldable pub moveless : Command → Bool
moveless NoOperation = true
moveless Seek = true
moveless SetMask = true
moveless SetSector = true
moveless SearchId = true
moveless ReadHome = false
moveless (ReadRecord k) = false
moveless SearchIdMultitrack = false
moveless (ReadMultitrack k) = false
moveless Unlisted = true

-- those that have an argument
unfoldable pub argues : Command → Bool
argues NoOperation = false
argues Seek = true
argues SetMask = true
argues SetSector = true
argues SearchId = true
argues ReadHome = false
argues (ReadRecord k) = false
argues SearchIdMultitrack = false
argues (ReadMultitrack k) = false
argues Unlisted = false
