-- `error_table::action_for` meets its contract: the action is that of the row. Assumes nothing.
use borrow.Author.Rules.{rules}
use Rattle.error_table.proofs.Rows.{chosen}
use Rattle.error_table.proofs.action_for.Goals as goal

pub returns : goal.returns
returns c = chosen _ _ _ _ _ c.row_for.ensures (search rules)
