-- `address::Model::try_from` meets its contract: each answer rewrites by the number. Assumes nothing.
use borrow.Author.Tests.{ne_eqb}
use Rattle.base.specs.Choice.{pick}
use Rattle.address.specs.Model.{model_of}
use Rattle.address.proofs.ModelTryFromU8.try_from.Goals as goal

pub returns-in-1 : goal.returns-in-1
unfolding model_of pick
returns-in-1 c = rw c.in-1.is

pub returns-in-11 : goal.returns-in-11
unfolding model_of pick
returns-in-11 c = rw c.in-11.is

pub returns-in_default : goal.returns-in_default
unfolding model_of pick
returns-in_default c = let n = c.in_default.in_default-own.rest in rw (ne_eqb _ _ n.0.1, ne_eqb _ _ n.1)
