-- `action_nine_eleven::walk_end` meets its contract. Invariant: the rest of the walk ends as the whole does. Measure: the bytes left; each CCW
-- takes at least one. Assumes nothing.
use native.Mathlib.Omega.{arith}
use mathlib.Core.Path.{refl, sym, ◌∙◌}
use Rattle.channel.proofs.Readable.{positive}
use Rattle.correction.proofs.Retracing.{count_fits}
use Rattle.action_nine_eleven.proofs.Walking.{end_last, end_broken, end_on, more_usable}
use Rattle.action_nine_eleven.proofs.walk_end.Goals as goal

pub loop-here-init : goal.loop-here-init
loop-here-init c =
    (c.requires.in_bytes, c.requires.inside, c.requires.c_value, λ p e f. refl)

pub returns-then-last_of : goal.returns-then-last_of
returns-then-last_of c =
    let a = c.args in
    let last = sym c.last_of.ensures ∙ c.if-last_of.true in record {
      walks_to = λ p e f. end_last p a.size c.loop-here.more c.loop-here.here c.loop-here.word last _ c.lesser.ensures.value ∙ c.loop-here.invariant.3 p e f;
      end_usable = record {
        inside = c.loop-here.invariant.1;
        in_bytes = c.loop-here.invariant.0;
        usable = more_usable a.size c.loop-here.word c.requires.size_bound c.loop-here.invariant.2;
        left = omega (arith, c.lesser.ensures.upper_bound_2);
      };
    }

pub overflow_sub-more : goal.overflow_sub-more
overflow_sub-more c =
    count_fits c.loop-here.word c.loop-here.more (sym c.last_of.ensures ∙ c.if-last_of.false)

pub next_usable-requires : goal.next_usable-requires
next_usable-requires c = c.loop-here.invariant.1

pub returns-in-Err : goal.returns-in-Err
returns-in-Err c =
    let a = c.args in
    let on = sym c.last_of.ensures ∙ c.if-last_of.false in
    let q = rw c.in-Err.is at c.next_usable.ensures.next_usable in record { walks_to = λ p e f. end_broken p a.size c.loop-here.more c.loop-here.here c.loop-here.word (positive _ _ c.loop-here.invariant.2) on _ (q p e f) ∙ c.loop-here.invariant.3 p e f; end_usable = tt }

pub loop-here-smaller : goal.loop-here-smaller
loop-here-smaller c =
    let fits = count_fits c.loop-here.word c.loop-here.more (sym c.last_of.ensures ∙ c.if-last_of.false) in
    omega (arith, fits, positive _ _ c.loop-here.invariant.2)

pub loop-here-preserved : goal.loop-here-preserved
loop-here-preserved c =
    let a = c.args in
    let on = sym c.last_of.ensures ∙ c.if-last_of.false in
    let q = rw c.in-Ok.is at c.next_usable.ensures.next_usable in
    let g = rw c.in-Ok.is at c.next_usable.ensures.usable in (
      g.1,
      g.0,
      g.2,
      λ p e f. end_on p a.size c.loop-here.more c.loop-here.here c.loop-here.word (positive _ _ c.loop-here.invariant.2) on _ _ (q p e f) g.2 ∙ c.loop-here.invariant.3 p e f,
    )
