-- `recovered::less_unit_check` meets its contract: by bit 6 of the unit status. Assumes nothing.
use mathlib.Core.Path.{sym, ◌∙◌}
use native.Mathlib.Omega.{arith}
use Rattle.recovered.proofs.Checks.{two_off, check_off, check_none}
use Rattle.recovered.proofs.less_unit_check.Goals as goal

pub overflow_sub-result : goal.overflow_sub-result
overflow_sub-result c = let n = two_off c.args.w (sym c.bit.ensures ∙ c.if-bit.true) in omega arith

pub returns-then-bit : goal.returns-then-bit
returns-then-bit c = check_off _ (sym c.bit.ensures ∙ c.if-bit.true)

pub returns : goal.returns
returns c = check_none _ (sym c.bit.ensures ∙ c.if-bit.false)
