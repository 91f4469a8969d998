-- `image::may_follow` meets its contract by cases. Assumes nothing.
use mathlib.Core.Path.{◌∙◌}
use Rattle.image.specs.Image.{follows}
use Rattle.address.proofs.Order.{less}
use Rattle.image.proofs.may_follow.Goals as goal

pub returns-in-None : goal.returns-in-None
unfolding follows
returns-in-None c = rw c.in-None.is

pub returns-in-Some : goal.returns-in-Some
unfolding follows
returns-in-Some c = rw c.in-Some.is (c.lt.ensures ∙ less c.in-Some.c c.args.a)
