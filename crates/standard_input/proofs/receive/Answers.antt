-- What a read gave stands behind what the reads before it gave.
use Rattle.std.proofs.Common.{rules, length-take-le}
use Rattle.standard_input.proofs.Taken.{taken_more}
use Rattle.standard_input.proofs.receive.Goals as goal

pub loop-done-preserved : goal.loop-done-preserved
loop-done-preserved g c = (
  search rules,
  taken_more _ _ _ _ c.read.new.buf _ c.loop-done.done c.in_ok-more.more (length-take-le c.loop-done.done c.loop-done.to c.loop-done.invariant.0)
      c.in_ok-more.ensures.bound.0 c.loop-done.invariant.1 c.in_ok-more.ensures.bytes.0,
)
