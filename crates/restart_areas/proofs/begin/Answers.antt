-- `restart_areas::begin` meets its contract: the CCWs in the cleared area are laws of `begun`. Assumes nothing.
use Rattle.restart_areas.specs.Placed.{begun_to}
use Rattle.restart_areas.proofs.Areas.{begun_unset, begun_set}
use Rattle.restart_areas.proofs.begin.Goals as goal

pub returns-in-None-clause-program_after : goal.returns-in-None-clause-program_after
returns-in-None-clause-program_after c =
    begun_unset c.args.program.now c.requires (c.fill.ensures.after (λ y e. e)) c.put_ccw.ensures c.in-None.is c.put_ccw-in-None.ensures

pub returns-in-None-clause-value : goal.returns-in-None-clause-value
unfolding begun_to
returns-in-None-clause-value c = rw c.in-None.is

pub returns-in-Some-clause-program_after : goal.returns-in-Some-clause-program_after
returns-in-Some-clause-program_after c =
    begun_set c.args.program.now c.requires (c.fill.ensures.after (λ y e. e)) c.put_ccw.ensures c.in-Some.is c.put_ccw-in-Some.ensures
    c.put_ccw-in-Some-2.ensures

pub returns-in-Some-clause-value : goal.returns-in-Some-clause-value
unfolding begun_to
returns-in-Some-clause-value c = rw c.in-Some.is
