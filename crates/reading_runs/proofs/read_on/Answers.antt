-- `reading_runs::read_on` meets its contract. Invariant: the reading goes on with the run that the loop has come to, behind the recoveries made, and
-- the areas hold what these left. Measure: the recoveries left. Assumes nothing.
use mathlib.Core.Path.{refl, ◌∙◌}
use Rattle.channel.specs.Ccw.{address_of}
use Rattle.reading_cut.specs.Cut.{lent_areas}
use Rattle.reading_runs.proofs.Listed.{part_long}
use Rattle.reading_runs.proofs.Ons.{at_first, on_ended, on_limited, on_exhausted, on_closed, on_halted, on_again}
use borrow.Author.Rules.{rules}
use native.Mathlib.Omega.{arith}
use Rattle.reading_runs.proofs.read_on.Goals as goal

pub loop-ran-init : goal.loop-ran-init
loop-ran-init c =
    let a = c.args in
    (search rules, refl, refl, refl, refl, c.requires.ran_low, at_first a.chain.now a.arguments.now a.image.now a.faults.now a.x a.limit a.first (lent_areas a.storage.now a.program.now a.restart_arguments.now a.list.now))

pub returns-in-Ended : goal.returns-in-Ended
returns-in-Ended c =
    let a = c.args in record { reads_on = on_ended a.chain.now a.arguments.now a.image.now a.faults.now a.x a.limit a.first (lent_areas a.storage.now a.program.now a.restart_arguments.now a.list.now) _ _ c.in-Ended.e (rw c.in-Ended.is at c.loop-ran.invariant.6); made_le_limit = c.loop-ran.invariant.0; over_low = record { csw_low = rw c.in-Ended.is at c.loop-ran.invariant.5; made_low = omega (arith, c.loop-ran.invariant.0, c.requires.limit_bound) } }

pub returns-in-Limited : goal.returns-in-Limited
returns-in-Limited c =
    let a = c.args in record { reads_on = on_limited a.chain.now a.arguments.now a.image.now a.faults.now a.x a.limit a.first (lent_areas a.storage.now a.program.now a.restart_arguments.now a.list.now) _ _ c.in-Limited.out (rw c.in-Limited.is at c.loop-ran.invariant.6); made_le_limit = c.loop-ran.invariant.0; over_low = record { csw_low = rw c.in-Limited.is at c.loop-ran.invariant.5; made_low = omega (arith, c.loop-ran.invariant.0, c.requires.limit_bound) } }

pub returns-then-made-limit : goal.returns-then-made-limit
returns-then-made-limit c =
    let a = c.args in
    let low = rw c.in-Cut.is at c.loop-ran.invariant.5 in record { reads_on = on_exhausted a.chain.now a.arguments.now a.image.now a.faults.now a.x a.limit a.first (lent_areas a.storage.now a.program.now a.restart_arguments.now a.list.now) _ _ c.in-Cut.k (rw c.in-Cut.is at c.loop-ran.invariant.6) c.if-made-limit.true; made_le_limit = c.loop-ran.invariant.0; over_low = record { csw_low = low.csw_low; made_low = omega (arith, c.loop-ran.invariant.0, c.requires.limit_bound) } }

pub overflow_mul-made : goal.overflow_mul-made
overflow_mul-made c =
    omega (arith, c.loop-ran.invariant.0, c.loop-ran.invariant.4, c.requires.limit_bound, c.requires.limit_in_bounds, c.if-made-limit.false)

pub slice_bounds-after_cut-count : goal.slice_bounds-after_cut-count
slice_bounds-after_cut-count c =
    omega (arith, c.loop-ran.invariant.0, c.loop-ran.invariant.4, c.requires.limit_bound, c.requires.limit_in_bounds, c.if-made-limit.false)

pub slice_bounds-after_cut-start : goal.slice_bounds-after_cut-start
slice_bounds-after_cut-start c =
    omega (arith, c.loop-ran.invariant.0, c.loop-ran.invariant.4, c.requires.limit_bound, c.requires.limit_in_bounds, c.if-made-limit.false)

pub after_cut-requires : goal.after_cut-requires
after_cut-requires c = record {
  lendable = record {
    chain_short = c.requires.lendable.chain_short;
    storage_short = omega (arith, c.loop-ran.invariant.1, c.requires.lendable.storage_short);
    program_full = c.loop-ran.invariant.2 ∙ c.requires.lendable.program_full;
    restart_arguments_full = c.loop-ran.invariant.3 ∙ c.requires.lendable.restart_arguments_full;
  };
  cut_low = rw c.in-Cut.is at c.loop-ran.invariant.5;
  in_bounds = part_long c.loop-ran.made c.args.limit c.loop-ran.list c.loop-ran.invariant.0 c.if-made-limit.false c.loop-ran.invariant.4 c.requires.limit_in_bounds;
}

pub run_from-ran-requires : goal.run_from-ran-requires
unfolding address_of
run_from-ran-requires c = record { begun = record { short = (c.requires.begun.short.0, omega (arith, c.program-1.given, c.loop-ran.invariant.2, c.requires.begun.short.1)); whole = c.requires.begun.whole; listed = c.requires.begun.listed }; low = omega arith }

pub overflow_add-made : goal.overflow_add-made
overflow_add-made c =
    omega (arith, c.loop-ran.invariant.0, c.requires.limit_bound)

pub loop-ran-preserved : goal.loop-ran-preserved
loop-ran-preserved c =
    let a = c.args in
    let cut = rw c.in-Cut.is at c.loop-ran.invariant.6 in (
      omega (arith, c.loop-ran.invariant.0, c.if-made-limit.false),
      c.storage-in-Again-1.given ∙ c.storage-1.given ∙ c.loop-ran.invariant.1,
      c.program-1.given ∙ c.loop-ran.invariant.2,
      c.restart_arguments-1.given ∙ c.loop-ran.invariant.3,
      search rules,
      c.run_from-ran.ensures.ran_low,
      on_again a.chain.now a.arguments.now a.image.now a.faults.now a.x a.limit a.first (lent_areas a.storage.now a.program.now a.restart_arguments.now a.list.now) _ _ c.in-Cut.k cut c.loop-ran.invariant.0 c.if-made-limit.false (lent_areas _ _ _ _)
          (rw c.in-Again.is at c.after_cut.ensures.after_cut) c.run_from-ran.result _ c.run_from-ran.ensures.runs,
    )

pub overflow_add-result : goal.overflow_add-result
overflow_add-result c =
    omega (arith, c.loop-ran.invariant.0, c.requires.limit_bound)

pub returns-in-Closed : goal.returns-in-Closed
returns-in-Closed c =
    let a = c.args in
    let cut = rw c.in-Cut.is at c.loop-ran.invariant.6 in record {
      reads_on = on_closed a.chain.now a.arguments.now a.image.now a.faults.now a.x a.limit a.first (lent_areas a.storage.now a.program.now a.restart_arguments.now a.list.now) _ _ c.in-Cut.k cut c.loop-ran.invariant.0 c.if-made-limit.false _ (lent_areas _ _ _ _)
          (rw c.in-Closed.is at c.after_cut.ensures.after_cut);
      made_le_limit = omega (arith, c.loop-ran.invariant.0, c.if-made-limit.false);
      over_low = record { csw_low = rw c.in-Closed.is at c.after_cut.ensures.went_low; made_low = omega (arith, c.loop-ran.invariant.0, c.requires.limit_bound) };
    }

pub returns-in-Halted : goal.returns-in-Halted
returns-in-Halted c =
    let a = c.args in
    let cut = rw c.in-Cut.is at c.loop-ran.invariant.6 in
    let low = rw c.in-Cut.is at c.loop-ran.invariant.5 in record {
      reads_on = on_halted a.chain.now a.arguments.now a.image.now a.faults.now a.x a.limit a.first (lent_areas a.storage.now a.program.now a.restart_arguments.now a.list.now) _ _ c.in-Cut.k cut c.loop-ran.invariant.0 c.if-made-limit.false _ (lent_areas _ _ _ _)
          (rw c.in-Halted.is at c.after_cut.ensures.after_cut);
      made_le_limit = c.loop-ran.invariant.0;
      over_low = record { csw_low = low.csw_low; made_low = omega (arith, c.loop-ran.invariant.0, c.requires.limit_bound) };
    }
