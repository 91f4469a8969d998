-- `report::with_tries` meets its contract: each answer is a law of `with_tries` at the tests that led there. Assumes nothing.
use native.Mathlib.Omega.{arith}
use Rattle.std.proofs.lemmas.Result.{err_from_is_err_and}
use Rattle.report.proofs.Places.{required_tells, required_missing}
use Rattle.report.proofs.Behind.{tries_end, tries_missing, tries_more, tries_here, bounds_tried}
use Rattle.report.proofs.with_tries.Goals as goal

pub returns-then-report-at : goal.returns-then-report-at
returns-then-report-at c = record { reads = tries_end _ _ _ c.if-report-at.true; bounded = c.requires }

pub returns-in_err-tries-clause-reads : goal.returns-in_err-tries-clause-reads
returns-in_err-tries-clause-reads c =
    let p = err_from_is_err_and c.from_residual.result c.from_residual.ensures.1 in
    rw p.1 (tries_missing _ _ _ c.if-report-at.false (required_missing _ _ 0x15 1 c.sized_at.ensures c.ok_or.ensures.ok_part c.in_err-tries.was))

pub returns-then-tries-report-clause-reads : goal.returns-then-tries-report-clause-reads
returns-then-tries-report-clause-reads c =
    tries_more _ _ _ (required_tells _ _ 0x15 1 c.sized_at.ensures c.ok_or.ensures.ok_part c.in_ok-tries.was) c.if-tries-report.true

pub byte-requires : goal.byte-requires
byte-requires c =
    let w = required_tells _ _ 0x15 1 c.sized_at.ensures c.ok_or.ensures.ok_part c.in_ok-tries.was in
    omega (arith, w.next_is, w.inside)

pub returns : goal.returns
returns c =
    let w = required_tells _ _ 0x15 1 c.sized_at.ensures c.ok_or.ensures.ok_part c.in_ok-tries.was in
    record { reads = tries_here _ _ _ w c.if-tries-report.false _ c.byte.ensures.value; bounded = bounds_tried c.requires _ }
