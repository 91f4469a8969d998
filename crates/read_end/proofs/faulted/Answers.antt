-- `read_end::faulted` meets its contract: by how the data chain ended. Assumes nothing.
use Rattle.read_end.proofs.Ends.{checked_low, ended_low, ended_left, faulted_checked, faulted_ended, cut_low}
use Rattle.read_end.proofs.faulted.Goals as goal

pub program_check-requires : goal.program_check-requires
program_check-requires c = checked_low _ _ c.in-Err.is c.requires.low_moved

pub returns-in-Err : goal.returns-in-Err
returns-in-Err c =
    let given = c.args in record { cuts_off = faulted_checked given.d _ c.program_check.result _ c.in-Err.is c.program_check.ensures.answers _ given.p _ _; kept_always = c.program_check.ensures.kept_always }

pub csw_at-requires : goal.csw_at-requires
csw_at-requires c =
    let pre = c.requires.low_moved in record { low = ended_low _ _ _ _ _ c.in-Ok.is pre; left_bound = ended_left _ _ _ _ _ c.in-Ok.is pre }

pub returns-in-Ok : goal.returns-in-Ok
returns-in-Ok c =
    let given = c.args in record { cuts_off = faulted_ended given.d _ _ _ _ _ c.in-Ok.is c.incorrect_length.result c.length_status-status.result _ c.incorrect_length.ensures c.length_status-status.ensures _ given.p _ _ c.csw_at.ensures.value; kept_always = λ image. cut_low _ given.p given.f _ given.d _ c.csw_at.result c.requires.faulted_low c.csw_at.ensures.csw_low }
