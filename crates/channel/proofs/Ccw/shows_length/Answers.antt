-- `channel::Ccw::shows_length` meets its contract: each answer is a law of `shows_length`. Assumes nothing.
use mathlib.Core.Path.{sym, ◌∙◌}
use Rattle.channel.proofs.Answers.{unsuppressed, suppressed}
use Rattle.channel.proofs.Ccw.shows_length.Goals as goal

pub returns-then-not-suppresses : goal.returns-then-not-suppresses
returns-then-not-suppresses c = unsuppressed _ (sym c.suppresses.ensures ∙ c.if-not-suppresses.true)

pub returns : goal.returns
returns c = c.chains_data.ensures ∙ suppressed _ (sym c.suppresses.ensures ∙ c.if-not-suppresses.false)
