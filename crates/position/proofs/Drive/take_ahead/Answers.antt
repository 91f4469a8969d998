-- `Drive::take_ahead` meets its contract: the next record other than R0, or no record found. Assumes nothing.
use native.Mathlib.Omega.{arith}
use Rattle.position.proofs.Take.{belongs, take_seen, take_unseen}
use Rattle.position.proofs.Drive.take_ahead.Goals as goal

pub returns-in_err-x : goal.returns-in_err-x
returns-in_err-x c =
    let o = c.requires.standing.on c.requires.found_value in rw c.from_residual.ensures (record { takes_for = take_unseen _ _ _ _ o.0 o.1 c.requires.passed_value (rw c.in_err-x.was at c.ahead.ensures); taken_stands = tt })

pub stepped-requires : goal.stepped-requires
stepped-requires c =
    let o = c.requires.standing.on c.requires.found_value in
    let a = rw c.in_ok-x.was at c.ahead.ensures in record { standing = c.requires.standing; spots = (o.0, o.1, (a o.0 o.1).0); passes_bound = omega arith }

pub returns : goal.returns
returns c =
    let o = c.requires.standing.on c.requires.found_value in
    let a = rw c.in_ok-x.was at c.ahead.ensures in
    let x = (a o.0 o.1).0 in record { takes_for = take_seen _ _ _ _ o.0 o.1 c.requires.passed_value _ c.stepped.result a c.stepped.ensures.value; taken_stands = (c.stepped.ensures.stands, x.bounds, (_, x.found), belongs _ _ o.0 o.1 _ x) }
