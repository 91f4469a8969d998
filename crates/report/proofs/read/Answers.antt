-- `report::read` meets its contract: each answer is a law of `report_from` at the fields that were found. Assumes nothing.
use native.Mathlib.Omega.{arith}
use mathlib.Core.Path.{◌∙◌}
use Rattle.std.proofs.lemmas.Result.{err_from_is_err_and}
use Rattle.report.proofs.Places.{required_tells, required_missing}
use Rattle.report.proofs.Front.{no_sense, no_csw, no_first, csw_wrong, plain, long}
use Rattle.report.proofs.read.Goals as goal

pub returns-in_err-sense-clause-value : goal.returns-in_err-sense-clause-value
returns-in_err-sense-clause-value c =
    let p = err_from_is_err_and c.from_residual.result c.from_residual.ensures.1 in
    rw p.1 (no_sense _ (required_missing _ _ 0x10 24 c.sized_at.ensures c.ok_or.ensures.ok_part c.in_err-sense.was))

pub returns-in_err-csw-clause-value : goal.returns-in_err-csw-clause-value
returns-in_err-csw-clause-value c =
    let p = err_from_is_err_and c.from_residual-in_err-csw.result c.from_residual-in_err-csw.ensures.1 in
    let w0 = required_tells _ _ 0x10 24 c.sized_at.ensures c.ok_or.ensures.ok_part c.in_ok-sense.was in
    rw p.1 (no_csw _ w0 (required_missing _ _ 0x11 8 c.sized_at-2.ensures c.ok_or-2.ensures.ok_part c.in_err-csw.was))

pub returns-in_err-first-clause-value : goal.returns-in_err-first-clause-value
returns-in_err-first-clause-value c =
    let p = err_from_is_err_and c.from_residual-in_err-first.result c.from_residual-in_err-first.ensures.1 in
    let w0 = required_tells _ _ 0x10 24 c.sized_at.ensures c.ok_or.ensures.ok_part c.in_ok-sense.was in
    let w1 = required_tells _ _ 0x11 8 c.sized_at-2.ensures c.ok_or-2.ensures.ok_part c.in_ok-csw.was in
    rw p.1 (no_first _ w0 w1 (required_missing _ _ 0x12 2 c.sized_at-3.ensures c.ok_or-3.ensures.ok_part c.in_err-first.was))

pub bounds-report-csw : goal.bounds-report-csw
bounds-report-csw c =
    let w1 = required_tells _ _ 0x11 8 c.sized_at-2.ensures c.ok_or-2.ensures.ok_part c.in_ok-csw.was in
    omega (arith, w1.next_is, w1.inside)

pub returns-then-report-csw-ne0-clause-value : goal.returns-then-report-csw-ne0-clause-value
returns-then-report-csw-ne0-clause-value c =
    let w0 = required_tells _ _ 0x10 24 c.sized_at.ensures c.ok_or.ensures.ok_part c.in_ok-sense.was in
    let w1 = required_tells _ _ 0x11 8 c.sized_at-2.ensures c.ok_or-2.ensures.ok_part c.in_ok-csw.was in
    let w2 = required_tells _ _ 0x12 2 c.sized_at-3.ensures c.ok_or-3.ensures.ok_part c.in_ok-first.was in
    csw_wrong _ w0 w1 w2 c.if-report-csw-ne0.true

pub csw_in-requires : goal.csw_in-requires
csw_in-requires c =
    let w1 = required_tells _ _ 0x11 8 c.sized_at-2.ensures c.ok_or-2.ensures.ok_part c.in_ok-csw.was in
    omega (arith, w1.next_is, w1.inside)

pub be16-requires : goal.be16-requires
be16-requires c =
    let w2 = required_tells _ _ 0x12 2 c.sized_at-3.ensures c.ok_or-3.ensures.ok_part c.in_ok-first.was in
    omega (arith, w2.next_is, w2.inside)

pub with_mask-requires : goal.with_mask-requires
with_mask-requires c =
    let w0 = required_tells _ _ 0x10 24 c.sized_at.ensures c.ok_or.ensures.ok_part c.in_ok-sense.was in
    let w1 = required_tells _ _ 0x11 8 c.sized_at-2.ensures c.ok_or-2.ensures.ok_part c.in_ok-csw.was in
    let w2 = required_tells _ _ 0x12 2 c.sized_at-3.ensures c.ok_or-3.ensures.ok_part c.in_ok-first.was in
    record { long = long _ w0 w1 w2; address = c.csw_in.ensures.address_bound; count = c.csw_in.ensures.count_bound; first = c.be16.ensures.upper_bound; seek = tt }

pub returns : goal.returns
returns c =
    let w0 = required_tells _ _ 0x10 24 c.sized_at.ensures c.ok_or.ensures.ok_part c.in_ok-sense.was in
    let w1 = required_tells _ _ 0x11 8 c.sized_at-2.ensures c.ok_or-2.ensures.ok_part c.in_ok-csw.was in
    let w2 = required_tells _ _ 0x12 2 c.sized_at-3.ensures c.ok_or-3.ensures.ok_part c.in_ok-first.was in
    record {
      value = c.with_mask.ensures.reads
          ∙ plain _ w0 w1 w2 c.if-report-csw-ne0.false _ c.csw_in.ensures.value _ c.be16.ensures.value;
      bounded = c.with_mask.ensures.bounded;
    }
