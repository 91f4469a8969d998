-- The models of a pack: "the model (1 or 11)".
use Rattle.std.specs.Prelude.{ℕ, eqb, Option, Some, None}
use Rattle.base.specs.Choice.{pick}
use Rattle.address.specs.declared.Model.{Model}
use Rattle.address.specs.declared.Model.TheVariants.{One, Eleven}

-- "A model other than 1 or 11 is refused": it is none
unfoldable pub model_of : ℕ → Option Model
model_of n = pick (eqb n 1) (Some One) (pick (eqb n 11) (Some Eleven) None)

-- a pack's last cylinder: "cylinder 0 to 410" (document 01); "These have cylinders 0 to 814." (document 02)
abbrev pub last_of : Model → ℕ
last_of One = 410
last_of Eleven = 814
