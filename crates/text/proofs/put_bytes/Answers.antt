-- `text::put_bytes` meets its contract. Invariant: the digits that are left, put where the loop stands, make the whole. Assumes nothing.
use Rattle.text.proofs.Written.{bytes_turn, bytes_none}
use borrow.Author.Rules.{rules}
use Rattle.text.proofs.put_bytes.Goals as goal

pub loop-from-init : goal.loop-from-init
loop-from-init c = (search rules, search rules, search rules, λ z q p. p)

pub loop-from-preserved : goal.loop-from-preserved
loop-from-preserved c = (
  search rules,
  search rules,
  search rules,
  λ z q p. c.loop-from.invariant.3 z q (bytes_turn _ _ c.loop-from-test.true c.byte.ensures.value c.put_digits-next.ensures.puts z q p),
)

pub returns : goal.returns
returns c = record { puts = c.loop-from.invariant.3 _ _ (bytes_none _ _ c.loop-from-test.false); value = search rules }
