-- `heads::read_on` meets its contract. Invariant: what is read from here on is what is read from the first drive on, with turns enough for the
-- heads left. Measure: the heads left. Assumes nothing.
use Prim.Native.Nat.{◌-◌}
use native.Mathlib.Omega.{arith}
use mathlib.Core.Path.{refl, ap, sym, ◌∙◌}
use borrow.Author.Tests.{not-true, not-false}
use Rattle.drive.specs.Drive.{past_zero}
use Rattle.position.proofs.Places.{spotted, ended}
use Rattle.heads.specs.Reached.{reached_of}
use Rattle.heads.proofs.Next.{ends_at}
use Rattle.heads.proofs.Reach.{step_made, read_off, read_here, read_fails, read_on, failed}
use borrow.Enum.Refused.{opened}
use Rattle.heads.proofs.read_on.Goals as goal

pub loop-e-init : goal.loop-e-init
loop-e-init c = (18, refl, omega arith, c.requires)

pub returns-then-not-e : goal.returns-then-not-e
returns-then-not-e c =
    let i = c.loop-e.invariant in record { value = read_off _ i.0 _ (i.3.off (not-true _ c.if-not-e.true)) ∙ i.1; reached_stands = tt }

pub past_zero-start-requires : goal.past_zero-start-requires
past_zero-start-requires c = c.loop-e.invariant.3

pub returns-in_default : goal.returns-in_default
returns-in_default c =
    let i = c.loop-e.invariant in
    let o = i.3.on (not-false _ c.if-not-e.false) in
    let z = c.past_zero-start.ensures o.0 o.1 in
    let e = c.in_default.is in
    let x = spotted _ o.0 _ _ z.0 _ z.1 (sym c.record_at.ensures.value ∙ e) (rw e at c.record_at.ensures.bounded) in record { value = read_here _ i.0 _ o.0 o.1.there x.inside ∙ i.1; reached_stands = i.3 }

pub next_head-r-requires : goal.next_head-r-requires
next_head-r-requires c =
    let i = c.loop-e.invariant in
    let o = i.3.on (not-false _ c.if-not-e.false) in
    let z = c.past_zero-start.ensures o.0 o.1 in record { standing = i.3; track_ends = (o.0, o.1, ends_at _ o.0 (past_zero c.loop-e.e.next) _ z.0 (sym c.record_at.ensures.value ∙ c.in-None.is)) }

pub returns-in_default-r : goal.returns-in_default-r
returns-in_default-r c =
    let i = c.loop-e.invariant in
    let o = i.3.on (not-false _ c.if-not-e.false) in
    let z = c.past_zero-start.ensures o.0 o.1 in
    let n = ended _ o.0 _ _ z.0 (sym c.record_at.ensures.value ∙ c.in-None.is) in
    let f = failed c.next_head-r.result (opened c.in_default-r.in_default-r-own.keys2) in record { value = f.1 ∙ read_fails _ i.0 _ o.0 o.1.there n f.0 (sym f.1 ∙ c.next_head-r.ensures.value) ∙ i.1; reached_stands = c.next_head-r.ensures.reached_stands }

pub loop-e-smaller : goal.loop-e-smaller
loop-e-smaller c =
    let step = step_made _ _ (sym (ap reached_of c.in-Reaches.is) ∙ c.next_head-r.ensures.value) in
    omega arith

pub loop-e-preserved : goal.loop-e-preserved
loop-e-preserved c =
    let i = c.loop-e.invariant in
    let o = i.3.on (not-false _ c.if-not-e.false) in
    let z = c.past_zero-start.ensures o.0 o.1 in
    let n = ended _ o.0 _ _ z.0 (sym c.record_at.ensures.value ∙ c.in-None.is) in
    let e = c.in-Reaches.is in
    let r = sym (ap reached_of e) ∙ c.next_head-r.ensures.value in
    let step = step_made _ _ r in
    (i.0 - 1, read_on _ i.0 _ o.0 o.1.there n (omega arith) _ r ∙ i.1, omega arith, rw e at c.next_head-r.ensures.reached_stands)
