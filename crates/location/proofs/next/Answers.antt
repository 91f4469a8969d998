-- `location::next` meets its contract by cases of the place. Assumes nothing.
use native.Mathlib.Omega.{arith}
use Rattle.channel.specs.Ccw.{next}
use Rattle.location.proofs.next.Goals as goal

pub overflow_add-result : goal.overflow_add-result
overflow_add-result c =
    let h = rw c.in-Chain.is at c.requires.fits in omega arith

pub overflow_add-result-in-Restart : goal.overflow_add-result-in-Restart
overflow_add-result-in-Restart c =
    let h = rw c.in-Restart.is at c.requires.fits in omega arith

pub returns-in-Chain : goal.returns-in-Chain
unfolding next
returns-in-Chain c = rw c.in-Chain.is

pub returns-in-Restart : goal.returns-in-Restart
unfolding next
returns-in-Restart c = rw c.in-Restart.is
