-- `action_nine_eleven::nine` meets its contract: by the user's track. Assumes nothing.
use Rattle.action_nine_eleven.proofs.Overflows.{nine_no_track, nine_goes}
use Rattle.action_nine_eleven.proofs.nine.Goals as goal

pub returns-in_default : goal.returns-in_default
returns-in_default c =
    let a = c.args in record { decides = nine_no_track a.chain.now a.size a.t c.in_default.is; goes_low = tt }

pub next_cylinder-requires : goal.next_cylinder-requires
next_cylinder-requires c = (rw c.in-Some.is at c.requires.told_low.user_low).0

pub overflow_at-requires : goal.overflow_at-requires
overflow_at-requires c = record { chain_len_bound = c.requires.chain_len_bound; size_bound = c.requires.size_bound }

pub returns : goal.returns
returns c =
    let a = c.args in record { decides = nine_goes a.chain.now a.size a.t _ c.in-Some.is _ _ c.next_cylinder.ensures c.overflow_at.ensures.overflows; goes_low = c.overflow_at.ensures.goes_low }
