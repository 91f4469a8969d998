-- `action_eight_ten::interrupted` meets its contract: the CSW's address, the CCW below it, and whether that is a TIC. Assumes nothing.
use native.Mathlib.Omega.{arith}
use mathlib.Core.Path.{sym, ◌∙◌}
use Rattle.recovered.proofs.Fetched.{ccw_there, ccw_gone}
use Rattle.action_eight_ten.proofs.Tracks.{below_front, none_there, tic_there, stands_there}
use Rattle.action_eight_ten.proofs.interrupted.Goals as goal

pub returns-then-csw-lt8 : goal.returns-then-csw-lt8
returns-then-csw-lt8 c = record { interrupts = below_front _ _ c.if-csw-lt8.true; behind = tt }

pub returns-in_default : goal.returns-in_default
returns-in_default c = record { interrupts = none_there _ _ c.if-csw-lt8.false (ccw_gone _ _ (rw c.in_default.is at c.fetch.ensures.fetches)); behind = tt }

pub returns-then-is_tic : goal.returns-then-is_tic
returns-then-is_tic c =
    let there = ccw_there _ _ _ (rw c.in-Some.is at c.fetch.ensures.fetches) in record { interrupts = tic_there _ _ c.if-csw-lt8.false _ there (sym c.is_tic.ensures ∙ c.if-is_tic.true); behind = tt }

pub returns : goal.returns
returns c =
    let high = c.if-csw-lt8.false in
    let there = ccw_there _ _ _ (rw c.in-Some.is at c.fetch.ensures.fetches) in
    let inside = rw c.in-Some.is at c.fetch.ensures.fetched_from in record { interrupts = stands_there _ _ high _ there (sym c.is_tic.ensures ∙ c.if-is_tic.false); behind = (high, omega (arith, high, inside.0)) }
