-- `explain_names::ccw_index` meets its contract. Assumes nothing.
use Rattle.explain_names.proofs.Named.{tic_index, other_index}
use Rattle.explain_names.proofs.ccw_index.Goals as goal

pub returns-then-is_tic : goal.returns-then-is_tic
returns-then-is_tic c = tic_index _ c.is_tic.ensures c.if-is_tic.true

pub returns : goal.returns
returns c = other_index _ c.is_tic.ensures c.if-is_tic.false c.from.ensures c.command_index.ensures
