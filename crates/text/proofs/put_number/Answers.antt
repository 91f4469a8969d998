-- `text::put_number` meets its contract: a space, and the digits behind it. Assumes nothing.
use Rattle.text.proofs.Written.{puts_number, first_kept}
use Rattle.text.proofs.put_number.Goals as goal

pub shape_of-to : goal.shape_of-to
shape_of-to c =
    let a = c.args in
    first_kept a.to.now a.at 0x20 _ _ _ _ c.put_digits.ensures.puts

pub returns : goal.returns
returns c =
    let a = c.args in record { puts = puts_number a.to.now _ a.at _ _ _ _ c.put_digits.ensures.puts; value = c.put_digits.ensures.value }
