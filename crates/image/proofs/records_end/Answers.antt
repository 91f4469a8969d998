-- `image::records_end` meets its contract. Invariant: the table marks the numbers of the records passed, and the image is sound if what
-- is left is sound behind them. Measure: the bytes left. Assumes nothing.
use mathlib.Core.Path.{refl, sym, ◌∙◌}
use mathlib.Core.List.{[], ◌∷◌}
use lib.ListN.{length-set}
use Rattle.pack.proofs.Decode.{record_bounds}
use Rattle.image.proofs.Marks.{marks_zero, marks_more, marked, unmarked}
use Rattle.image.proofs.Pass.{inside_end, inside_unfit, inside_again, inside_on}
use native.Mathlib.Omega.{arith}
use Rattle.image.proofs.records_end.Goals as goal

pub loop-p-init : goal.loop-p-init
loop-p-init c = (0 ∷ [], marks_zero, λ last. refl, refl, omega arith, omega arith)

pub returns-in_default : goal.returns-in_default
returns-in_default c =
    let i = c.loop-p.invariant in
    (i.4, i.5, λ last. i.2 last ∙ inside_end last _ _ _ _ (sym c.record_at.ensures.value ∙ c.in_default.is))

pub fits-requires : goal.fits-requires
fits-requires c =
    let b = record_bounds _ _ _ (sym c.record_at.ensures.value ∙ c.in-Some.is) in
    omega (arith, b.in_order)

pub returns-then-not-fits : goal.returns-then-not-fits
returns-then-not-fits c =
    let i = c.loop-p.invariant in
    let b = rw c.in-Some.is at c.record_at.ensures.bounded in
    λ last. i.2 last ∙ inside_unfit last _ _ _ _ _ (sym c.record_at.ensures.value ∙ c.in-Some.is) b.number (sym c.fits.ensures ∙ c.if-not-fits.true)

pub bounds-seen-p : goal.bounds-seen-p
bounds-seen-p c =
    let b = rw c.in-Some.is at c.record_at.ensures.bounded in
    omega arith

pub returns-then-seen-p-eq1 : goal.returns-then-seen-p-eq1
returns-then-seen-p-eq1 c =
    let i = c.loop-p.invariant in
    let b = rw c.in-Some.is at c.record_at.ensures.bounded in
    λ last. i.2 last ∙ inside_again last _ _ _ _ _ (sym c.record_at.ensures.value ∙ c.in-Some.is) b.number (sym c.fits.ensures ∙ c.if-not-fits.false)
    (marked c.loop-p.seen i.0 i.1 _ b.number c.if-seen-p-eq1.true)

pub bounds-seen-p-in-loop-p : goal.bounds-seen-p-in-loop-p
bounds-seen-p-in-loop-p c =
    let b = rw c.in-Some.is at c.record_at.ensures.bounded in
    omega arith

pub loop-p-smaller : goal.loop-p-smaller
loop-p-smaller c =
    let b = record_bounds _ _ _ (sym c.record_at.ensures.value ∙ c.in-Some.is) in
    omega (arith, b.behind, b.in_order, b.inside)

pub loop-p-preserved : goal.loop-p-preserved
loop-p-preserved c =
    let i = c.loop-p.invariant in
    let e = sym c.record_at.ensures.value ∙ c.in-Some.is in
    let l = record_bounds _ _ _ e in
    let b = rw c.in-Some.is at c.record_at.ensures.bounded in (
      c.in-Some.p.r ∷ i.0,
      marks_more c.loop-p.seen i.0 c.in-Some.p.r (omega arith) i.1,
      λ last. i.2 last ∙ inside_on last _ _ _ _ _ e b.number (sym c.fits.ensures ∙ c.if-not-fits.false) (unmarked c.loop-p.seen i.0 i.1 _ b.number c.if-seen-p-eq1.false),
      simp length-set i.3,
      omega (arith, l.behind, l.in_order),
      l.inside,
    )
