-- `recovered::agrees` meets its contract: address, count, length. Assumes nothing.
use Prim.Native.Nat.{◌+◌}
use mathlib.Core.Path.{ap, sym, ◌∙◌}
use Rattle.recovered.proofs.Checks.{other_address, other_count, wrong_length, right_length}
use Rattle.recovered.proofs.agrees.Goals as goal

pub returns-then-w-address_of : goal.returns-then-w-address_of
returns-then-w-address_of c = other_address _ _ _ _ (λ e. c.if-w-address_of.true (e ∙ ap (λ n. n + 8) (sym c.address_of.ensures)))

pub returns-then-w-left : goal.returns-then-w-left
returns-then-w-left c = other_count _ _ _ _ (c.if-w-address_of.false ∙ ap (λ n. n + 8) c.address_of.ensures) c.if-w-left.true

pub returns-then-wrong : goal.returns-then-wrong
returns-then-wrong c =
    wrong_length _ _ _ _ (c.if-w-address_of.false ∙ ap (λ n. n + 8) c.address_of.ensures) c.if-w-left.false _ c.bit.ensures c.if-wrong.true

pub returns : goal.returns
returns c =
    right_length _ _ _ _ (c.if-w-address_of.false ∙ ap (λ n. n + 8) c.address_of.ensures) c.if-w-left.false _ c.bit-2.ensures c.if-wrong.false
