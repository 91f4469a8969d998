-- `action_eight_ten::next_track` meets its contract: by the head. Assumes nothing.
use mathlib.Core.Path.{◌∙◌}
use Rattle.action_eight_ten.proofs.Tracks.{head_carried, head_up}
use Rattle.action_eight_ten.proofs.next_track.Goals as goal

pub returns-then-a-eq18 : goal.returns-then-a-eq18
returns-then-a-eq18 c = c.next_cylinder.ensures ∙ head_carried _ c.if-a-eq18.true

pub returns : goal.returns
returns c = head_up _ c.if-a-eq18.false
