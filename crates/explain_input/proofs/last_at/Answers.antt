-- `explain_input::last_at` meets its contract. Invariant: from here on the extent's field is that of the whole. Measure: the bytes left. Assumes nothing.
use mathlib.Core.Path.{refl, sym, ◌∙◌}
use Rattle.fields.proofs.FieldAt.{bounds}
use Rattle.explain_input.proofs.Walk.{last_past, last_torn, last_here, last_on}
use borrow.Author.Rules.{rules}
use native.Mathlib.Omega.{arith}
use Rattle.explain_input.proofs.last_at.Goals as goal

pub loop-at-init : goal.loop-at-init
loop-at-init c = (search rules, search rules, refl)

pub returns-in_err-field : goal.returns-in_err-field
returns-in_err-field c =
    rw c.from_residual.ensures (record { value = last_torn _ _ (sym c.field_at.ensures ∙ c.in_err-field.was) ∙ c.loop-at.invariant.2; inside = tt })

pub returns-then-field-eq50 : goal.returns-then-field-eq50
returns-then-field-eq50 c =
    let e = sym c.field_at.ensures ∙ c.in_ok-field.was in
    let w = bounds _ _ e in record { value = last_here _ _ e c.if-field-eq50.true ∙ c.loop-at.invariant.2; inside = (c.loop-at.invariant.0, omega (arith, w.0), w.1, w.2) }

pub loop-at-smaller : goal.loop-at-smaller
loop-at-smaller c =
    let w = bounds _ _ (sym c.field_at.ensures ∙ c.in_ok-field.was) in
    omega (arith, w.0, w.1, w.2)

pub loop-at-preserved : goal.loop-at-preserved
loop-at-preserved c =
    let e = sym c.field_at.ensures ∙ c.in_ok-field.was in
    let w = bounds _ _ e in
    (omega (arith, w.0, w.1, c.loop-at.invariant.0), w.2, last_on _ _ e c.if-field-eq50.false ∙ c.loop-at.invariant.2)

pub returns : goal.returns
returns c = record { value = last_past _ _ c.loop-at-test.false ∙ c.loop-at.invariant.2; inside = tt }
