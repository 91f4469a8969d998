-- `explain_session::put_reported` meets its contract. Assumes nothing.
use Rattle.explain_session.proofs.Told.{well_sense, ill_sense, long_report}
use borrow.Author.Rules.{rules}
use native.Mathlib.Omega.{arith}
use Rattle.explain_session.proofs.put_reported.Goals as goal

pub returns-in_default : goal.returns-in_default
returns-in_default c =
    let e = ill_sense _ _ c.read.ensures.value c.in_default.is in record { puts = rw (← e) c.put_told.ensures.puts; upper_bound = search rules }

pub slice_bounds-put_told-end-2 : goal.slice_bounds-put_told-end-2
slice_bounds-put_told-end-2 c =
    let a = c.args in
    let n = long_report a.report.now c.in-Ok.is c.read.ensures.bounded in
    omega (arith, n)

pub returns : goal.returns
returns c =
    let e = well_sense _ _ c.read.ensures.value c.in-Ok.is in record { puts = rw (← e) c.put_told-2.ensures.puts; upper_bound = search rules }
