-- `faults::find_fault` meets its contract. Invariant: in a list that decodes, the fault is to be found from here on as from the start.
-- Measure: the bytes left. Assumes nothing.
use mathlib.Core.Path.{refl, sym, ◌∙◌}
use Rattle.faults.proofs.Places.{fault_bounds, fault_here, fault_on, fault_missing}
use native.Mathlib.Omega.{arith}
use Rattle.faults.proofs.find_fault.Goals as goal

pub loop-l-init : goal.loop-l-init
loop-l-init c = λ fs h. (fs, h, refl)

pub returns-in_err-l : goal.returns-in_err-l
returns-in_err-l c =
    rw c.from_residual.ensures
    (λ fs h.
    let i = c.loop-l.invariant fs h in
    i.2 ∙ fault_missing _ _ i.0 i.1 _ _ (sym c.fault_at.ensures ∙ c.in_err-l.was))

pub returns-then-names : goal.returns-then-names
returns-then-names c =
    λ fs h.
    let i = c.loop-l.invariant fs h in
    i.2 ∙ fault_here _ _ i.0 i.1 _ _ _ (sym c.fault_at.ensures ∙ c.in_ok-l.was) (sym c.names.ensures ∙ c.if-names.true)

pub loop-l-smaller : goal.loop-l-smaller
loop-l-smaller c =
    let b = fault_bounds _ _ _ (sym c.fault_at.ensures ∙ c.in_ok-l.was) in
    omega arith

pub loop-l-preserved : goal.loop-l-preserved
loop-l-preserved c =
    λ fs h.
    let i = c.loop-l.invariant fs h in
    let t = fault_on _ _ i.0 i.1 _ _ _ (sym c.fault_at.ensures ∙ c.in_ok-l.was) (sym c.names.ensures ∙ c.if-names.false) in
    (t.0, t.1, i.2 ∙ t.2)
