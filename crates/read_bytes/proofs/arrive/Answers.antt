-- `read_bytes::arrive` meets its contract: the bytes of each call are handed to the next. Assumes nothing.
use mathlib.Core.Path.{ap, ◌∙◌}
use Rattle.base.specs.Bits.{xored_at}
use Rattle.read_bytes.proofs.Pattern.{arrived}
use Rattle.read_bytes.proofs.arrive.Goals as goal

pub returns : goal.returns
returns c =
    let a = c.args in
    arrived a.p0 a.p1 a.p2 a.bytes.now _ a.displacement.0
    (rw (← c.from_front-at.ensures) (c.exclusive_or-3.ensures ∙ ap (xored_at _ a.p2) (c.exclusive_or-2.ensures ∙ ap (xored_at _ a.p1) c.exclusive_or.ensures)))
