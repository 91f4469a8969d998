-- `base::exclusive_or` meets its contract: a store outside changes nothing. Assumes nothing.
use mathlib.Core.Path.{refl, sym}
use lib.Seq.{set_out}
use Rattle.base.specs.Bits.{xored_at}
use Rattle.base.proofs.exclusive_or.Goals as goal

pub returns-then-at-bytes : goal.returns-then-at-bytes
unfolding xored_at
returns-then-at-bytes c = refl

pub returns-else-at-bytes : goal.returns-else-at-bytes
unfolding xored_at
returns-else-at-bytes c = sym (set_out _ _ _ c.if-at-bytes.false)
