-- `faults::sound_faults` meets its contract. Invariant: in an image that decodes, the list is sound if what is left of it is.
-- Measure: the bytes left. Assumes nothing.
use mathlib.Core.Path.{refl, sym, ◌∙◌}
use Rattle.faults.proofs.Places.{fault_bounds}
use Rattle.faults.proofs.Sound.{sound_end, sound_none, sound_unsound, sound_again, sound_on}
use native.Mathlib.Omega.{arith}
use Rattle.faults.proofs.sound_faults.Goals as goal

pub loop-here-init : goal.loop-here-init
loop-here-init c = λ d h. refl

pub returns-in_default : goal.returns-in_default
returns-in_default c =
    λ d h. sym (c.loop-here.invariant d h ∙ sound_none _ _ _ c.loop-here-test.true (sym c.fault_at.ensures ∙ c.in_default.is))

pub returns-then-not-sound_fault : goal.returns-then-not-sound_fault
returns-then-not-sound_fault c =
    let e = sym c.fault_at.ensures ∙ c.in-Some.is in
    λ d h.
    sym (c.loop-here.invariant d h ∙ sound_unsound _ _ _ _ e (sym (c.sound_fault.ensures d h) ∙ c.if-not-sound_fault.true))

pub returns-then-named_from : goal.returns-then-named_from
returns-then-named_from c =
    let e = sym c.fault_at.ensures ∙ c.in-Some.is in
    let m = rw c.if-named_from.true at c.named_from.ensures in
    λ d h.
    sym (c.loop-here.invariant d h ∙ sound_again _ _ _ _ e (sym (c.sound_fault.ensures d h) ∙ c.if-not-sound_fault.false) m)

pub loop-here-smaller : goal.loop-here-smaller
loop-here-smaller c =
    let e = sym c.fault_at.ensures ∙ c.in-Some.is in
    let b = fault_bounds _ _ _ e in
    omega arith

pub loop-here-preserved : goal.loop-here-preserved
loop-here-preserved c =
    let e = sym c.fault_at.ensures ∙ c.in-Some.is in
    let m = rw c.if-named_from.false at c.named_from.ensures in
    λ d h.
    c.loop-here.invariant d h ∙ sound_on _ _ _ _ e (sym (c.sound_fault.ensures d h) ∙ c.if-not-sound_fault.false) m

pub returns : goal.returns
returns c = λ d h. sym (c.loop-here.invariant d h ∙ sound_end _ _ _ c.loop-here-test.false)
