-- `pack::find_record` meets its contract. Invariant: where the bytes decode, the number is to be found from here on as from the start.
-- Measure: the bytes left. Assumes nothing.
use mathlib.Core.Path.{refl, sym, ◌∙◌}
use Rattle.pack.proofs.Decode.{record_bounds}
use Rattle.pack.proofs.Lookup.{record_here, record_on, record_none}
use native.Mathlib.Omega.{arith}
use Rattle.pack.proofs.find_record.Goals as goal

pub loop-p-init : goal.loop-p-init
loop-p-init c = λ d h. (d, h, refl)

pub returns-in_err-p : goal.returns-in_err-p
returns-in_err-p c =
    let e = sym c.record_at.ensures.value ∙ c.in_err-p.was in record { record_found = rw c.from_residual.ensures (λ d h. let i = c.loop-p.invariant d h in i.2 ∙ record_none _ _ i.0 i.1 e _); bounded = rw c.from_residual.ensures tt }

pub returns-then-p-r : goal.returns-then-p-r
returns-then-p-r c =
    let e = sym c.record_at.ensures.value ∙ c.in_ok-p.was in record { record_found = λ d h. let i = c.loop-p.invariant d h in i.2 ∙ record_here _ _ i.0 i.1 _ e _ c.if-p-r.true; bounded = rw c.in_ok-p.was at c.record_at.ensures.bounded }

pub loop-p-smaller : goal.loop-p-smaller
loop-p-smaller c =
    let b = record_bounds _ _ _ (sym c.record_at.ensures.value ∙ c.in_ok-p.was) in
    omega (arith, b.behind, b.in_order, b.inside)

pub loop-p-preserved : goal.loop-p-preserved
loop-p-preserved c =
    λ d h.
    let i = c.loop-p.invariant d h in
    let t = record_on _ _ i.0 i.1 _ (sym c.record_at.ensures.value ∙ c.in_ok-p.was) _ c.if-p-r.false in
    (t.0, t.1, i.2 ∙ t.2)
