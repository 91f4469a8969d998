-- `restart_areas::overflow_program` meets its contract: the CCWs behind the program's front are laws of `overflow_program`. Assumes nothing.
use native.Mathlib.Omega.{arith}
use Rattle.restart_areas.proofs.Areas.{rest_alone, rest_tic}
use Rattle.restart_areas.proofs.overflow_program.Goals as goal

pub put_ccw-requires-in-Some : goal.put_ccw-requires-in-Some
put_ccw-requires-in-Some c =
    let low = rw c.in-Some.is at c.requires.tic_low in record { at_in_bounds = omega (arith, c.begin-at.ensures.upper_bound); address_bound = omega (arith, low); count_bound = omega arith }

pub returns-in-None : goal.returns-in-None
returns-in-None c =
    rest_alone _ _ c.begin-at.ensures.program_after c.begin-at.ensures.value _ _ c.put_ccw.ensures c.put_ccw-2.ensures c.in-None.is

pub returns-in-Some : goal.returns-in-Some
returns-in-Some c =
    rest_tic _ _ c.begin-at.ensures.program_after c.begin-at.ensures.value _ _ c.put_ccw.ensures c.put_ccw-2.ensures _ c.in-Some.is c.put_ccw-in-Some.ensures
