-- `channel::Ccw::readable` meets its contract: each answer is a law of `readable`. Assumes nothing.
use mathlib.Core.Path.{sym, ◌∙◌}
use Rattle.channel.proofs.Answers.{unformed, skipped, in_range}
use Rattle.channel.proofs.Ccw.readable.Goals as goal

pub returns-then-not-formed : goal.returns-then-not-formed
returns-then-not-formed c = unformed _ _ (sym c.formed.ensures ∙ c.if-not-formed.true)

pub returns-then-skips : goal.returns-then-skips
returns-then-skips c = skipped _ _ (sym c.formed.ensures ∙ c.if-not-formed.false) (sym c.skips.ensures ∙ c.if-skips.true)

pub returns : goal.returns
returns c =
    in_range _ _ (sym c.formed.ensures ∙ c.if-not-formed.false) (sym c.skips.ensures ∙ c.if-skips.false)
