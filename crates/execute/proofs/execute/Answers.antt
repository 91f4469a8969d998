-- `execute::execute` meets its contract: by whether the CCW makes a program check. Assumes nothing.
use Rattle.read_command.proofs.Moves.{inside_low}
use Rattle.execute.proofs.Commands.{unchecked, checked, performed}
use Rattle.execute.proofs.execute.Goals as goal

pub program_check-requires : goal.program_check-requires
program_check-requires c = inside_low _ _ c.requires.begun.short _ c.requires.in_area.inside

pub returns-then-not-sound : goal.returns-then-not-sound
returns-then-not-sound c =
    let start = c.args in record { executes = checked start.chain.now start.arguments.now start.program.now start.restart_arguments.now _ start.c start.storage.now c.from-k.result c.sound.result c.from-k.ensures c.sound.ensures _ start.image.now start.faults.now _ c.program_check.result (c.if-not-sound.true) c.program_check.ensures.answers; kept = c.program_check.ensures.kept_always _ }

pub perform-requires : goal.perform-requires
perform-requires c =
    let a = c.args in record { begun = c.requires.begun; in_area = c.requires.in_area; standing = c.requires.standing; k_value = c.from-k.ensures; unchecked = unchecked a.chain.now a.arguments.now a.program.now a.restart_arguments.now _ a.c a.storage.now c.from-k.result c.sound.result c.from-k.ensures c.sound.ensures (c.if-not-sound.false) }

pub returns : goal.returns
returns c =
    let start = c.args in record { executes = performed start.chain.now start.arguments.now start.program.now start.restart_arguments.now _ start.c start.storage.now c.from-k.result c.sound.result c.from-k.ensures c.sound.ensures _ start.image.now start.faults.now _ c.perform.result _ (c.if-not-sound.false) c.perform.ensures.performs; kept = c.perform.ensures.kept }
