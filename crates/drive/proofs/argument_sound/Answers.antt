-- `drive::argument_sound` meets its contract: form first, then the argument's range. Assumes nothing.
use mathlib.Core.Path.{sym, ◌∙◌}
use Rattle.drive.proofs.Arguments.{unargued, argued}
use Rattle.drive.proofs.argument_sound.Goals as goal

pub returns-then-not-formed : goal.returns-then-not-formed
returns-then-not-formed c = λ p e f. unargued p _ _ (sym c.formed.ensures ∙ c.if-not-formed.true)

pub returns : goal.returns
returns c =
    λ p e f. argued p _ _ (sym c.formed.ensures ∙ c.if-not-formed.false) (c.argument_inside.ensures p e f)
