-- `words::put_item` meets its contract: the bytes between the two places are the text. Assumes nothing.
use native.Mathlib.Omega.{arith}
use Rattle.words.proofs.Items.{item_part, part_short}
use native.Mathlib.Omega.{arith}
use Rattle.words.proofs.put_item.Goals as goal

pub put-requires : goal.put-requires
put-requires c =
    let a = c.args in
    let n = part_short 64 a.list.now a.i _ _ c.item_at-from.ensures.list_value c.end_of-end.ensures.value c.requires.list_value in
    omega (arith, n, c.requires.at_in_bounds)

pub returns : goal.returns
returns c =
    let a = c.args in
    let n = part_short 64 a.list.now a.i _ _ c.item_at-from.ensures.list_value c.end_of-end.ensures.value c.requires.list_value in
    let e = item_part a.list.now a.i _ _ c.item_at-from.ensures.list_value c.end_of-end.ensures.value in record { puts = rw (← e) c.put.ensures.puts; upper_bound = omega (arith, n, c.put.ensures.value) }
