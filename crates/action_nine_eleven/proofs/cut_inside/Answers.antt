-- `action_nine_eleven::cut_inside` meets its contract: address, count, then whether a count is left. Assumes nothing.
use Prim.Native.Nat.{◌+◌}
use mathlib.Core.Path.{ap, sym, ◌∙◌}
use Rattle.action_nine_eleven.proofs.Overflows.{other_address, other_count, some_left}
use Rattle.action_nine_eleven.proofs.cut_inside.Goals as goal

pub returns-then-w-address_of : goal.returns-then-w-address_of
returns-then-w-address_of c = other_address _ _ _ (λ e. c.if-w-address_of.true (e ∙ ap (λ n. n + 8) (sym c.address_of.ensures)))

pub returns-then-w-left : goal.returns-then-w-left
returns-then-w-left c = other_count _ _ _ (c.if-w-address_of.false ∙ ap (λ n. n + 8) c.address_of.ensures) c.if-w-left.true

pub returns : goal.returns
returns c = some_left _ _ _ (c.if-w-address_of.false ∙ ap (λ n. n + 8) c.address_of.ensures) c.if-w-left.false
