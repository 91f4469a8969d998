-- `restart_areas::search_arguments` meets its contract: the ID behind the other arguments is a law of `search_arguments`. Assumes nothing.
use Rattle.restart_areas.proofs.Areas.{arguments_id}
use Rattle.restart_areas.proofs.search_arguments.Goals as goal

pub returns : goal.returns
returns c =
    arguments_id _ _ _ _ c.begin_arguments.ensures c.put_address.ensures c.place.ensures
