-- `Drive::ahead` meets its contract: the record where the drive stands, or else the one behind R0. Assumes nothing.
use Rattle.position.proofs.Places.{ahead_second, ahead_next}
use Rattle.position.proofs.Drive.ahead.Goals as goal

pub returns-in_default : goal.returns-in_default
returns-in_default c =
    let a = c.args in
    let h = rw c.in_default.is at c.here_unless_zero.ensures in
    ahead_second a.image.now a.self c.second.result c.second.ensures h

pub returns : goal.returns
returns c =
    let h = rw c.in-Some.is at c.here_unless_zero.ensures in
    ahead_next _ _ _ h.0 h.1 h.2
