-- `overflow_restart::resume` meets its contract: nothing is corrected, and the seek is tested later. Assumes nothing.
use native.Mathlib.Omega.{arith}
use Rattle.overflow_restart.proofs.Restarts.{rest_is, rest_low, resumed}
use Rattle.overflow_restart.proofs.resume.Goals as goal

pub overflow_add-first : goal.overflow_add-first
overflow_add-first c =
    omega (arith, rest_low _ _ _ c.moved_on.ensures c.requires.in_bytes c.requires.c_value)

pub returns : goal.returns
returns c =
    let a = c.args in record { overflow_restarts = resumed a.mask a.a a.kind a.c a.left a.tic _ (rest_is a.c _ _ c.moved_on.ensures); goes_low = (record { address = rest_low _ _ _ c.moved_on.ensures c.requires.in_bytes c.requires.c_value; count = omega (arith, c.requires.in_bytes.count, c.requires.left_le_count) }, c.requires.tic_low) }
