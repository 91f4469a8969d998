-- `correction::retrace` meets its contract. Invariant: the places so far, with the rest of the walk behind them, are the whole walk.
-- Measure: the bytes left; each CCW takes at least one. Assumes nothing.
use Prim.Native.Nat.{ℕ, ◌-◌}
use native.Mathlib.Omega.{arith}
use mathlib.Core.Path.{◌≡◌, refl, sym, ◌∙◌}
use mathlib.Core.List.{[], ◌++◌}
use Rattle.channel.proofs.Stretch.{places_under, behind_places}
use Rattle.channel.proofs.Readable.{positive}
use Rattle.correction.specs.Retraced.{final_at}
use Rattle.correction.proofs.Retracing.{took_count, retraced_ended, retraced_broken, stayed_on, places_on, walk_on}
use Rattle.correction.proofs.retrace.Goals as goal

pub loop-here-init : goal.loop-here-init
unfolding final_at behind_places
loop-here-init c =
    let z : (m : ℕ) → m - 0 ≡ m = λ m. omega arith in
    (omega arith, c.requires.in_bytes, c.requires.inside, c.requires.c_value, ([], refl, c.nowhere-stayed.ensures, λ p e f. rw (z _)))

pub pass_all-stayed-requires : goal.pass_all-stayed-requires
pass_all-stayed-requires c =
    let i = c.loop-here.invariant in record { in_bytes = i.1; n_bound = omega (arith, i.0, c.lesser-took.ensures.upper_bound, c.requires.n_bound); k_bound = c.requires.k_bound }

pub returns-then-last_of : goal.returns-then-last_of
returns-then-last_of c =
    let pre = c.args in
    let i = c.loop-here.invariant.4 in
    let last = sym c.last_of.ensures ∙ c.if-last_of.true in
    let s = stayed_on i.0 c.loop-here.word c.loop-here.from _ pre.k c.loop-here.stayed _ i.1 i.2 c.pass_all-stayed.ensures in
    λ p u v. retraced_ended p pre.size pre.n _ i.0 c.loop-here.here c.loop-here.word c.loop-here.from (i.3 p u v) _ c.lesser-took.ensures.value pre.k _ last s

pub next_usable-requires : goal.next_usable-requires
next_usable-requires c = c.loop-here.invariant.2

pub returns-in-Err : goal.returns-in-Err
returns-in-Err c =
    let pre = c.args in
    let i = c.loop-here.invariant.4 in
    let more = sym c.last_of.ensures ∙ c.if-last_of.false in
    let q = rw c.in-Err.is at c.next_usable.ensures.next_usable in
    λ p u v.
    retraced_broken p pre.size pre.n _ i.0 c.loop-here.here c.loop-here.word c.loop-here.from (i.3 p u v) _ c.lesser-took.ensures.value
    (positive _ _ c.loop-here.invariant.3) more pre.k _ (q p u v)

pub loop-here-smaller : goal.loop-here-smaller
loop-here-smaller c =
    let all = took_count c.loop-here.word _ (sym c.last_of.ensures ∙ c.if-last_of.false) _ c.lesser-took.ensures.value in
    omega (arith, c.loop-here.invariant.0, positive _ _ c.loop-here.invariant.3, all, c.lesser-took.ensures.upper_bound)

pub loop-here-preserved : goal.loop-here-preserved
loop-here-preserved c =
    let pre = c.args in
    let i = c.loop-here.invariant.4 in
    let took = c.lesser-took.result in
    let more = sym c.last_of.ensures ∙ c.if-last_of.false in
    let q = rw c.in-Ok.is at c.next_usable.ensures.next_usable in
    let g = rw c.in-Ok.is at c.next_usable.ensures.usable in (
      omega (arith, c.loop-here.invariant.0, c.lesser-took.ensures.upper_bound),
      g.1,
      g.0,
      g.2,
      (
        i.0 ++ places_under c.loop-here.word c.loop-here.word.address took,
        places_on i.0 c.loop-here.word c.loop-here.from took i.1,
        stayed_on i.0 c.loop-here.word c.loop-here.from took pre.k c.loop-here.stayed _ i.1 i.2 c.pass_all-stayed.ensures,
        λ p u v.
            walk_on p pre.size pre.n _ i.0 c.loop-here.here c.loop-here.word c.loop-here.from (i.3 p u v) took c.lesser-took.ensures.value
            (positive _ _ c.loop-here.invariant.3) more _ _ (q p u v) g.2,
      ),
    )
