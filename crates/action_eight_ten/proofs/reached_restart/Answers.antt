-- `action_eight_ten::reached_restart` meets its contract: by the head reached. Assumes nothing.
use Rattle.action_eight_ten.proofs.Restarts.{head_off, head_on}
use Rattle.action_eight_ten.proofs.reached_restart.Goals as goal

pub returns-then-head-gt18 : goal.returns-then-head-gt18
returns-then-head-gt18 c = record { reached_restarts = head_off _ _ _ _ c.if-head-gt18.true; goes_low = tt }

pub returns : goal.returns
returns c = record { reached_restarts = head_on _ _ _ _ _ _ c.if-head-gt18.false c.next_track.ensures c.home.ensures.homes; goes_low = c.home.ensures.goes_low }
