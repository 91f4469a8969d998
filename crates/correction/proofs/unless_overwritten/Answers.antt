-- `correction::unless_overwritten` meets its contract: by where the stretch begins and ends. Assumes nothing.
use Rattle.correction.proofs.Tests.{overwritten_nowhere, overwritten_below, overwritten_hit, overwritten_past}
use Rattle.correction.proofs.unless_overwritten.Goals as goal

pub returns-in_default : goal.returns-in_default
returns-in_default c = overwritten_nowhere _ _ _ c.in_default.is

pub returns-then-a-c : goal.returns-then-a-c
returns-then-a-c c =
    overwritten_below c.args.c _ _ _ c.in-Some.is c.if-a-c.true

pub returns-then-a-c-2 : goal.returns-then-a-c-2
returns-then-a-c-2 c =
    overwritten_hit c.args.c _ _ _ c.in-Some.is c.if-a-c.false c.if-a-c-2.true

pub returns : goal.returns
returns c =
    overwritten_past c.args.c _ _ _ c.in-Some.is c.if-a-c.false c.if-a-c-2.false
