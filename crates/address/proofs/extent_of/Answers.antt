-- `address::extent_of` meets its contract: the four numbers are those that `be16` ensures. Assumes nothing.
use Rattle.address.specs.Within.{extent_of}
use Rattle.address.proofs.extent_of.Goals as goal

pub returns : goal.returns
unfolding extent_of
returns c = rw (c.be16-4.ensures.value, c.be16-3.ensures.value, c.be16-2.ensures.value, c.be16.ensures.value)
