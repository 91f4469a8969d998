-- `restart_areas::put_ccw` meets its contract: the bytes placed are those of `ccw_bytes`. Assumes nothing.
use mathlib.Core.Path.{◌∙◌, ap}
use Rattle.restart_areas.proofs.Placing.{ccw_formed}
use Rattle.restart_areas.specs.Placed.{placed}
use Rattle.restart_areas.proofs.put_ccw.Goals as goal

pub returns : goal.returns
returns c =
    let r = c.requires in
    c.place.ensures ∙ ap (placed _ _) (ccw_formed _ _ _ _ r.address_bound r.count_bound c.to_be_bytes.ensures c.to_be_bytes-2.ensures)
