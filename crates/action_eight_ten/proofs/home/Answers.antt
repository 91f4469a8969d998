-- `action_eight_ten::home` meets its contract: nothing is corrected, and the seek is tested later. Assumes nothing.
use Rattle.action_eight_ten.proofs.Restarts.{home_built}
use Rattle.action_eight_ten.proofs.home.Goals as goal

pub returns : goal.returns
returns c = record { homes = home_built _ _ _ _ _ c.nothing.ensures c.requires.kind_value; goes_low = c.requires.to_bound }
