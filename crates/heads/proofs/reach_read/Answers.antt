-- `heads::reach_read` meets its contract: a record whose count area was just passed is read from where the drive stands. Assumes nothing.
use mathlib.Core.Path.{sym, ◌∙◌}
use Rattle.heads.proofs.Reach.{take_just, take_on}
use Rattle.heads.proofs.reach_read.Goals as goal

pub returns-then-takes_passed : goal.returns-then-takes_passed
returns-then-takes_passed c = record { value = take_just _ _ _ (sym c.takes_passed.ensures ∙ c.if-takes_passed.true); reached_stands = c.requires }

pub returns : goal.returns
returns c = record { value = take_on _ _ _ (sym c.takes_passed.ensures ∙ c.if-takes_passed.false) _ c.read_on.ensures.value; reached_stands = c.read_on.ensures.reached_stands }
