-- `location::address_of` meets its contract by cases of the place. Assumes nothing.
use native.Mathlib.Omega.{arith}
use Rattle.channel.specs.Ccw.{address_of}
use Rattle.location.proofs.address_of.Goals as goal

pub overflow_add-result : goal.overflow_add-result
unfolding address_of
overflow_add-result c =
    let h = rw c.in-Restart.is at c.requires in omega arith

pub returns-in-Chain : goal.returns-in-Chain
unfolding address_of
returns-in-Chain c = rw c.in-Chain.is

pub returns-in-Restart : goal.returns-in-Restart
unfolding address_of
returns-in-Restart c = rw c.in-Restart.is
