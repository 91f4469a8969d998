-- `sense_bytes::put_cut_sense` meets its contract: each byte is a number's, and the numbers fit. Assumes nothing.
use native.Mathlib.Omega.{arith}
use Rattle.sense_bytes.proofs.Written.{cut_written}
use Rattle.sense_bytes.proofs.put_cut_sense.Goals as goal

pub overflow_cast-error : goal.overflow_cast-error
overflow_cast-error c = record { fits = omega (arith, c.requires.cut_low.error_low) }

pub put-requires : goal.put-requires
put-requires c = record { from_in_bounds = c.requires.in_bounds; from_len_bound = omega arith }

pub returns : goal.returns
returns c =
    let a = c.args in
    cut_written a.k a.to.now _ c.over_bit.ensures c.put.ensures
