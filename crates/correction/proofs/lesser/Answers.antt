-- `correction::lesser` meets its contract: by the test. Assumes nothing.
use native.Mathlib.Omega.{arith}
use mathlib.Core.Path.{sym}
use borrow.Author.Tests.{lt-ltb, le-ltb}
use Rattle.base.proofs.Choice.{pick_true, pick_false}
use Rattle.correction.proofs.lesser.Goals as goal

pub returns-then-a-b : goal.returns-then-a-b
returns-then-a-b c = record { value = sym (pick_true _ _ (lt-ltb _ _ c.if-a-b.true)); upper_bound = omega arith; upper_bound_2 = omega arith }

pub returns : goal.returns
returns c = record { value = sym (pick_false _ _ (le-ltb _ _ c.if-a-b.false)); upper_bound = omega arith; upper_bound_2 = omega arith }
