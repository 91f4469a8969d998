-- `execute::perform` meets its contract: by where the command is done. Assumes nothing.
use native.Mathlib.Omega.{arith}
use mathlib.Core.Path.{ap, ◌∙◌}
use lib.ListN.{length}
use Rattle.drive.specs.Step.{not_found, end_of_cylinder, protected_step}
use Rattle.command.specs.Answer.{lent_of}
use Rattle.heads.specs.Reached.{reached_of}
use Rattle.read_command.proofs.Moves.{inside_low}
use Rattle.execute.specs.Executes.{single_track}
use Rattle.execute.proofs.Commands.{single_sound, failed_performs, reached_performs}
use Rattle.execute.proofs.perform.Goals as goal

pub refuse-requires : goal.refuse-requires
refuse-requires c = record { low = inside_low _ _ c.requires.begun.short _ c.requires.in_area.inside; in_bytes = c.requires.in_area.bytes }

pub overflow_cast-at : goal.overflow_cast-at
overflow_cast-at c =
    let low = rw c.in-Protected.is at c.reach.ensures.reached_stands in
    omega (arith, low)

pub refuse_step-requires : goal.refuse_step-requires
refuse_step-requires c = record { low = inside_low _ _ c.requires.begun.short _ c.requires.in_area.inside; in_bytes = c.requires.in_area.bytes }

pub refuse-requires-in-EndOfCylinder : goal.refuse-requires-in-EndOfCylinder
refuse-requires-in-EndOfCylinder c = record { low = inside_low _ _ c.requires.begun.short _ c.requires.in_area.inside; in_bytes = c.requires.in_area.bytes }

pub perform_on_track-requires : goal.perform_on_track-requires
perform_on_track-requires c =
    let a = c.args in
    let sound = single_sound (lent_of a.chain.now a.arguments.now a.program.now a.restart_arguments.now) _ (length a.storage.now) a.c a.k c.requires.unchecked in record { begun = c.requires.begun; in_area = c.requires.in_area; standing = rw c.in-Reaches.is at c.reach.ensures.reached_stands; k_value = c.single_track-j.ensures ∙ ap single_track c.requires.k_value; unchecked = rw c.single_track-j.ensures sound }

pub returns-in-NotFound : goal.returns-in-NotFound
returns-in-NotFound c =
    let a = c.args in record { performs = failed_performs _ a.arguments.now _ a.restart_arguments.now _ a.image.now _ _ a.c a.k _ c.refuse.result a.d c.reach.result not_found (ap reached_of c.in-NotFound.is) c.reach.ensures.reaches_for c.refuse.ensures.answers; kept = c.refuse.ensures.kept_always _ }

pub returns-in-Protected : goal.returns-in-Protected
returns-in-Protected c =
    let a = c.args in record { performs = failed_performs _ a.arguments.now _ a.restart_arguments.now _ a.image.now _ _ a.c a.k _ c.refuse_step.result a.d c.reach.result (protected_step c.in-Protected.stood.at.head) (ap reached_of c.in-Protected.is) c.reach.ensures.reaches_for c.refuse_step.ensures.answers; kept = c.refuse_step.ensures.kept_always _ }

pub returns-in-EndOfCylinder : goal.returns-in-EndOfCylinder
returns-in-EndOfCylinder c =
    let a = c.args in record { performs = failed_performs _ a.arguments.now _ a.restart_arguments.now _ a.image.now _ _ a.c a.k _ c.refuse-in-EndOfCylinder.result a.d c.reach.result end_of_cylinder (ap reached_of c.in-EndOfCylinder.is) c.reach.ensures.reaches_for c.refuse-in-EndOfCylinder.ensures.answers; kept = c.refuse-in-EndOfCylinder.ensures.kept_always _ }

pub returns-in-Reaches : goal.returns-in-Reaches
returns-in-Reaches c =
    let a = c.args in
    let reached = rw c.in-Reaches.is at c.reach.ensures.reaches_for in record { performs = reached_performs _ a.arguments.now _ a.restart_arguments.now _ a.image.now _ _ a.c a.k a.storage.now c.perform_on_track.result a.d c.in-Reaches.e _ reached (rw c.single_track-j.ensures at c.perform_on_track.ensures.performs); kept = c.perform_on_track.ensures.kept }
