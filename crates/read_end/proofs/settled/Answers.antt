-- `read_end::settled` meets its contract: by how the data chain ended, and whether the length is incorrect. Assumes nothing.
use native.Mathlib.Omega.{arith}
use mathlib.Core.Path.{sym, ◌∙◌}
use Rattle.read_end.proofs.Ends.{checked_low, ended_low, ended_left, settled_checked, settled_wrong, settled_onward}
use Rattle.location.proofs.NextFits.{low_next}
use Rattle.read_end.proofs.settled.Goals as goal

pub program_check-requires : goal.program_check-requires
program_check-requires c = checked_low _ _ c.in-Err.is c.requires

pub returns-in-Err : goal.returns-in-Err
returns-in-Err c =
    let given = c.args in record { settles = settled_checked given.d _ c.program_check.result _ c.in-Err.is c.program_check.ensures.answers; kept_with = λ image s. c.program_check.ensures.kept_always image }

pub csw_at-requires : goal.csw_at-requires
csw_at-requires c =
    let pre = c.requires in record { low = ended_low _ _ _ _ _ c.in-Ok.is pre; left_bound = ended_left _ _ _ _ _ c.in-Ok.is pre }

pub returns-then-incorrect_length : goal.returns-then-incorrect_length
returns-then-incorrect_length c =
    let wrong = sym c.incorrect_length.ensures ∙ c.if-incorrect_length.true in record { settles = settled_wrong c.args.d _ _ _ _ _ c.in-Ok.is _ wrong c.csw_at.ensures.value; kept_with = λ image s. c.csw_at.ensures.csw_low }

pub next-requires : goal.next-requires
next-requires c =
    let low = ended_low _ _ _ _ _ c.in-Ok.is c.requires in
    low_next _ (omega arith)

pub onward-requires : goal.onward-requires
onward-requires c =
    let pre = c.requires in record { low = ended_low _ _ _ _ _ c.in-Ok.is pre; left_bound = ended_left _ _ _ _ _ c.in-Ok.is pre }

pub returns-in-Ok : goal.returns-in-Ok
returns-in-Ok c =
    let right = sym c.incorrect_length.ensures ∙ c.if-incorrect_length.false in record { settles = settled_onward c.args.d _ _ _ _ _ c.in-Ok.is _ c.onward.result right c.next.ensures c.onward.ensures.answers; kept_with = c.onward.ensures.kept_with }
