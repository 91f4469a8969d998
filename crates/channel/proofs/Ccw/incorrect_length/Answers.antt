-- `channel::Ccw::incorrect_length` meets its contract: each answer is a law of `incorrect_length`. Assumes nothing.
use mathlib.Core.Path.{◌∙◌}
use Rattle.channel.proofs.Answers.{over_length, exact_length, short_length}
use Rattle.channel.proofs.Ccw.incorrect_length.Goals as goal

pub returns-then-over : goal.returns-then-over
returns-then-over c = c.shows_length.ensures ∙ over_length _ _ _ c.if-over.true

pub returns-then-left-eq0 : goal.returns-then-left-eq0
returns-then-left-eq0 c = exact_length _ _ _ c.if-over.false c.if-left-eq0.true

pub returns : goal.returns
returns c = c.shows_length-2.ensures ∙ short_length _ _ _ c.if-over.false c.if-left-eq0.false
