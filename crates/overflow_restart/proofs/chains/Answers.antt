-- `overflow_restart::chains` meets its contract: by CD. Assumes nothing.
use mathlib.Core.Path.{sym, ◌∙◌}
use Rattle.overflow_restart.proofs.chains.Goals as goal

pub returns-then-chains_data : goal.returns-then-chains_data
returns-then-chains_data c = let on = sym c.chains_data.ensures ∙ c.if-chains_data.true in rw on

pub returns : goal.returns
returns c = let off = sym c.chains_data.ensures ∙ c.if-chains_data.false in rw off c.chains_command.ensures
