-- `correction::pass` meets its contract: by whether the byte is one of the stretch. Assumes nothing.
use mathlib.Core.Path.{sym, ◌∙◌}
use Rattle.correction.proofs.Tests.{pass_skipped, pass_before, pass_here, pass_behind}
use Rattle.correction.proofs.pass.Goals as goal

pub returns-then-skips : goal.returns-then-skips
returns-then-skips c = pass_skipped c.args.c _ _ _ _ (sym c.skips.ensures ∙ c.if-skips.true)

pub returns-then-j-from : goal.returns-then-j-from
returns-then-j-from c =
    pass_before c.args.c _ _ _ _ (sym c.skips.ensures ∙ c.if-skips.false) _ c.if-j-from.true c.unless_overwritten.ensures

pub returns-then-j-from-2 : goal.returns-then-j-from-2
returns-then-j-from-2 c =
    pass_here c.args.c _ _ _ _ (sym c.skips.ensures ∙ c.if-skips.false) c.if-j-from.false c.if-j-from-2.true

pub returns : goal.returns
returns c =
    pass_behind c.args.c _ _ _ _ (sym c.skips.ensures ∙ c.if-skips.false) _ c.if-j-from.false c.if-j-from-2.false c.unless_overwritten-2.ensures
