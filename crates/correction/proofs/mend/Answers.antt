-- `correction::mend` meets its contract: one pattern byte after the other. Assumes nothing.
use mathlib.Core.Path.{ap, ◌∙◌}
use Rattle.recovery.specs.Correct.{mend}
use Rattle.correction.specs.Retraced.{place_of, mended}
use Rattle.correction.proofs.mend.Goals as goal

pub returns : goal.returns
unfolding mended
returns c =
    let s = c.args.c.stayed in
    c.mend_at-3.ensures
    ∙ ap (mend (place_of s.third) _) (c.mend_at-2.ensures ∙ ap (mend (place_of s.second) _) c.mend_at.ensures)
