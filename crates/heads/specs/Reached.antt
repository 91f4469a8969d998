-- Where a multitrack command reaches, as the code has it.
use Rattle.std.specs.Prelude.{ℕ, ◌<◌, List}
use Rattle.drive.specs.Step as Step
use Rattle.position.specs.Standing.{drive_of, Standing}
use Rattle.heads.specs.declared.Reached.{Reached}
use Rattle.heads.specs.declared.Reached.TheVariants.{Reaches, NotFound, Protected, EndOfCylinder}

-- what is reached, as the definitions have it
abbrev pub reached_of : Reached → Step.Reached
reached_of (Reaches d) = Step.reaches (drive_of d)
reached_of NotFound = Step.fails Step.not_found
reached_of (Protected d) = Step.fails (Step.protected_step d.at.head)
reached_of EndOfCylinder = Step.fails Step.end_of_cylinder

-- the drive reached stands in the image, and the head of a protected step is not the last
abbrev pub ReachedStands : List ℕ → Reached → Type 0
ReachedStands image (Reaches d) = Standing image d
ReachedStands image NotFound = Unit {0}
ReachedStands image (Protected d) = d.at.head < 18
ReachedStands image EndOfCylinder = Unit {0}
