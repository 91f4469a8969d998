-- `reading_input::image_at` meets its contract. Invariant: what is left of the walk ends where the whole does. Measure: the bytes left. Assumes nothing.
use mathlib.Core.Path.{refl, sym, ◌∙◌}
use Rattle.fields.proofs.FieldAt.{bounds}
use Rattle.reading_input.proofs.Walk.{image_other, image_end, image_torn, image_on}
use borrow.Author.Rules.{rules}
use native.Mathlib.Omega.{arith}
use Rattle.reading_input.proofs.image_at.Goals as goal

pub loop-here-init : goal.loop-here-init
loop-here-init c = (refl, search rules, search rules)

pub returns-then-input-here-ne32 : goal.returns-then-input-here-ne32
returns-then-input-here-ne32 c = record { value = sym (image_other _ _ c.if-input-here-ne32.true) ∙ c.loop-here.invariant.0; lower_bound = search rules; upper_bound = search rules }

pub returns-in_default : goal.returns-in_default
returns-in_default c = record { value = sym (image_torn _ _ c.loop-here-test.true c.if-input-here-ne32.false (sym c.field_at.ensures ∙ c.in_default.is)) ∙ c.loop-here.invariant.0; lower_bound = search rules; upper_bound = search rules }

pub loop-here-smaller : goal.loop-here-smaller
loop-here-smaller c =
    let w = bounds _ _ (sym c.field_at.ensures ∙ c.in-Some.is) in
    omega (arith, w.0, w.1, w.2)

pub loop-here-preserved : goal.loop-here-preserved
loop-here-preserved c =
    let e = sym c.field_at.ensures ∙ c.in-Some.is in
    let w = bounds _ _ e in (
      sym (image_on _ _ c.loop-here-test.true c.if-input-here-ne32.false e) ∙ c.loop-here.invariant.0,
      omega (arith, w.0, w.1),
      w.2,
    )

pub returns : goal.returns
returns c = record { value = sym (image_end _ _ c.loop-here-test.false) ∙ c.loop-here.invariant.0; lower_bound = search rules; upper_bound = search rules }
