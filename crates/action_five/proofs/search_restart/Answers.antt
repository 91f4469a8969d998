-- `action_five::search_restart` meets its contract: the plan of the restart, field by field. Assumes nothing.
use Rattle.action_five.proofs.Searched.{search_restarts}
use Rattle.action_five.proofs.search_restart.Goals as goal

pub returns : goal.returns
returns c = record { search_restarts = search_restarts c.args.t _ _ _ _ _ _ c.search_kind.ensures c.read_count.ensures c.pattern.ensures; goes_low = c.requires }
