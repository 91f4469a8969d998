-- `action_nine_eleven::eleven` meets its contract: by the user's track and the head reached. Assumes nothing.
use native.Mathlib.Omega.{arith}
use Rattle.action_nine_eleven.proofs.Overflows.{eleven_no_track, head_off, eleven_goes}
use Rattle.action_nine_eleven.proofs.eleven.Goals as goal

pub returns-in_default : goal.returns-in_default
returns-in_default c =
    let a = c.args in record { decides = eleven_no_track a.chain.now a.size a.t c.in_default.is; goes_low = tt }

pub returns-then-sense-gt18 : goal.returns-then-sense-gt18
returns-then-sense-gt18 c =
    let a = c.args in record { decides = head_off a.chain.now a.size a.t _ c.in-Some.is c.if-sense-gt18.true; goes_low = tt }

pub next_track-requires : goal.next_track-requires
next_track-requires c =
    let low = rw c.in-Some.is at c.requires.told_low.user_low in record { cylinder_bound = low.0; head_bound = omega (arith, c.if-sense-gt18.false) }

pub overflow_at-requires : goal.overflow_at-requires
overflow_at-requires c = record { chain_len_bound = c.requires.chain_len_bound; size_bound = c.requires.size_bound }

pub returns : goal.returns
returns c =
    let a = c.args in record { decides = eleven_goes a.chain.now a.size a.t _ c.in-Some.is _ _ c.if-sense-gt18.false c.next_track.ensures c.overflow_at.ensures.overflows; goes_low = c.overflow_at.ensures.goes_low }
