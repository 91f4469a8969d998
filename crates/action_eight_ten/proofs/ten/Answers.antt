-- `action_eight_ten::ten` meets its contract: the user's track, the interrupted CCW, then whether that is a seek. Assumes nothing.
use native.Mathlib.Omega.{arith}
use mathlib.Core.Path.{ap, sym, ◌∙◌}
use Rattle.recovery.specs.Recovery.{is_seek}
use Rattle.action_eight_ten.proofs.Restarts.{ten_no_track, ten_no_ccw, ten_seek, ten_on}
use Rattle.action_eight_ten.proofs.ten.Goals as goal

pub returns-in_default : goal.returns-in_default
returns-in_default c = record { acts = ten_no_track _ c.args.t c.in_default.is; goes_low = tt }

pub returns-in_default-interrupted : goal.returns-in_default-interrupted
returns-in_default-interrupted c =
    let a = c.args in record { acts = ten_no_ccw _ a.t _ c.in-Some.is (rw c.in_default-interrupted.is at c.interrupted.ensures.interrupts); goes_low = tt }

pub seek_restart-requires : goal.seek_restart-requires
seek_restart-requires c =
    let there = rw c.in-Some-interrupted.is at c.interrupted.ensures.behind in record { chain_len_bound = c.requires.chain_len_bound; address_bound = c.requires.told_low.csw_low.address; le_address = there.0 }

pub returns-then-is_seek : goal.returns-then-is_seek
returns-then-is_seek c =
    let a = c.args in
    let there = rw c.in-Some-interrupted.is at c.interrupted.ensures.interrupts in
    let yes = ap is_seek (sym c.from.ensures) ∙ sym c.is_seek.ensures ∙ c.if-is_seek.true in record { acts = ten_seek _ a.t _ c.in-Some.is _ there _ yes c.seek_restart.ensures.seek_restarts; goes_low = c.seek_restart.ensures.goes_low }

pub reached_restart-requires : goal.reached_restart-requires
reached_restart-requires c =
    let there = rw c.in-Some-interrupted.is at c.interrupted.ensures.behind in record { le_address = there.0; address_bound = omega (arith, there.1, c.requires.chain_len_bound); cylinder_bound = (rw c.in-Some.is at c.requires.told_low.user_low).0 }

pub returns : goal.returns
returns c =
    let a = c.args in
    let there = rw c.in-Some-interrupted.is at c.interrupted.ensures.interrupts in
    let no = ap is_seek (sym c.from.ensures) ∙ sym c.is_seek.ensures ∙ c.if-is_seek.false in record { acts = ten_on _ a.t _ c.in-Some.is _ there _ no c.reached_restart.ensures.reached_restarts; goes_low = c.reached_restart.ensures.goes_low }
