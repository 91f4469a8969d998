-- `restart_areas::put_address` meets its contract: the bytes placed are those of `address_bytes`. Assumes nothing.
use Rattle.restart_areas.proofs.Placing.{address_placed}
use Rattle.restart_areas.proofs.put_address.Goals as goal

pub returns : goal.returns
returns c =
    let r = c.requires in
    address_placed _ _ _ r.cylinder_bound r.head_bound c.to_be_bytes.ensures c.to_be_bytes-2.ensures c.place.ensures c.place-2.ensures
