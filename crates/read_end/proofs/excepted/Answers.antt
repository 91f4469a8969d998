-- `read_end::excepted` meets its contract: by how the data chain ended. Assumes nothing.
use Rattle.read_end.proofs.Ends.{checked_low, ended_low, ended_left, excepted_checked, excepted_ended}
use Rattle.read_end.proofs.excepted.Goals as goal

pub program_check-requires : goal.program_check-requires
program_check-requires c = checked_low _ _ c.in-Err.is c.requires

pub returns-in-Err : goal.returns-in-Err
returns-in-Err c =
    let given = c.args in record { excepts = excepted_checked given.d _ c.program_check.result _ c.in-Err.is c.program_check.ensures.answers; kept_always = c.program_check.ensures.kept_always }

pub csw_at-requires : goal.csw_at-requires
csw_at-requires c =
    let pre = c.requires in record { low = ended_low _ _ _ _ _ c.in-Ok.is pre; left_bound = ended_left _ _ _ _ _ c.in-Ok.is pre }

pub returns-in-Ok : goal.returns-in-Ok
returns-in-Ok c =
    let given = c.args in record { excepts = excepted_ended given.d _ _ _ _ _ c.in-Ok.is c.incorrect_length.result c.length_status-status.result _ c.incorrect_length.ensures c.length_status-status.ensures c.csw_at.ensures.value; kept_always = λ image. c.csw_at.ensures.csw_low }
