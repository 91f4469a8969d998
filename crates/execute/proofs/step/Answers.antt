-- `execute::step` meets its contract: by the CCW that was fetched. Assumes nothing.
use Rattle.execute.proofs.Commands.{broken_low, broken, got}
use Rattle.execute.proofs.step.Goals as goal

pub program_check-requires : goal.program_check-requires
program_check-requires c =
    broken_low _ c.args.arguments.now _ c.args.restart_arguments.now c.args.s _ c.requires.begun.short c.requires.low (rw c.in-Err.is at c.resolve.ensures.resolves)

pub execute-requires : goal.execute-requires
execute-requires c =
    let there = rw c.in-Ok.is at c.resolve.ensures.got_inside in record { begun = c.requires.begun; in_area = record { inside = there.0; bytes = there.1 }; standing = c.requires.standing }

pub returns-in-Err : goal.returns-in-Err
returns-in-Err c =
    let start = c.args in record { steps = broken _ _ _ _ start.s _ _ _ start.storage.now c.program_check.result _ (rw c.in-Err.is at c.resolve.ensures.resolves) c.program_check.ensures.answers; kept = c.program_check.ensures.kept_always _ }

pub returns-in-Ok : goal.returns-in-Ok
returns-in-Ok c =
    let start = c.args in record { steps = got _ _ _ _ start.s _ _ _ start.storage.now c.execute.result _ _ _ (rw c.in-Ok.is at c.resolve.ensures.resolves) c.execute.ensures.executes; kept = c.execute.ensures.kept }
