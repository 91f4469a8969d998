-- `control::argument_word` meets its contract: its two bytes are the argument's. Assumes nothing.
use native.Mathlib.Omega.{arith}
use Rattle.control.proofs.Plans.{word_is}
use Rattle.control.proofs.argument_word.Goals as goal

pub returns : goal.returns
returns c = record { upper_bound = omega arith; argument_word = λ p e f. word_is (c.argument_byte-high.ensures.argument_byte p e f) (c.argument_byte-low.ensures.argument_byte p e f) }
