-- `action_eight_ten::eight` meets its contract: the user's track, the interrupted CCW, then the restart. Assumes nothing.
use mathlib.Core.Path.{refl}
use native.Mathlib.Omega.{arith}
use Rattle.action_eight_ten.proofs.Restarts.{eight_no_track, eight_no_ccw, eight_goes}
use Rattle.action_eight_ten.proofs.eight.Goals as goal

pub returns-in_default : goal.returns-in_default
returns-in_default c = record { acts = eight_no_track _ c.args.t c.in_default.is; goes_low = tt }

pub returns-in_default-interrupted : goal.returns-in_default-interrupted
returns-in_default-interrupted c =
    let a = c.args in record { acts = eight_no_ccw _ a.t _ c.in-Some.is (rw c.in_default-interrupted.is at c.interrupted.ensures.interrupts); goes_low = tt }

pub next_cylinder-requires : goal.next_cylinder-requires
next_cylinder-requires c = (rw c.in-Some.is at c.requires.told_low.user_low).0

pub overflow_sub-csw : goal.overflow_sub-csw
overflow_sub-csw c =
    let there = rw c.in-Some-interrupted.is at c.interrupted.ensures.behind in
    there.0

pub home-requires : goal.home-requires
home-requires c =
    let there = rw c.in-Some-interrupted.is at c.interrupted.ensures.behind in
    let short = c.requires.chain_len_bound in record { to_bound = omega (arith, there.1, short); kind_value = refl }

pub returns : goal.returns
returns c =
    let a = c.args in
    let there = rw c.in-Some-interrupted.is at c.interrupted.ensures.interrupts in record { acts = eight_goes _ a.t _ c.in-Some.is _ there _ _ c.next_cylinder.ensures c.home.ensures.homes; goes_low = c.home.ensures.goes_low }
