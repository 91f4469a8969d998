-- `action_five::retraced` meets its contract: how the data chain ended. Assumes nothing.
use native.Mathlib.Omega.{arith}
use mathlib.Core.Path.{sym, ◌∙◌}
use Rattle.action_five.proofs.Fives.{unreadable, retrace_checked, retrace_ended, ended_inside}
use Rattle.action_five.proofs.retraced.Goals as goal

pub returns-then-not-readable : goal.returns-then-not-readable
returns-then-not-readable c =
    let a = c.args in record { decides_retraced = unreadable a.chain.now a.size a.t a.c (sym c.readable.ensures ∙ c.if-not-readable.true); goes_low = tt }

pub retrace-requires : goal.retrace-requires
retrace-requires c = record { inside = c.requires.inside; in_bytes = c.requires.in_bytes; c_value = sym c.readable.ensures ∙ c.if-not-readable.false; n_bound = omega (arith, c.requires.in_bounds.0); k_bound = omega (arith, c.requires.in_bounds.0, c.from_front-k.ensures) }

pub walked_to-requires : goal.walked_to-requires
walked_to-requires c =
    let a = c.args in
    let traces = rw c.from_front-k.ensures at c.retrace.ensures in
    let right = sym c.readable.ensures ∙ c.if-not-readable.false in record { chain_len_bound = c.requires.chain_len_bound; inside = ended_inside a.chain.now a.size a.t a.c right _ traces _ c.in-Some.is c.requires.inside }

pub returns-in-None : goal.returns-in-None
returns-in-None c =
    let a = c.args in
    let traces = rw c.from_front-k.ensures at c.retrace.ensures in
    let right = sym c.readable.ensures ∙ c.if-not-readable.false in record { decides_retraced = retrace_checked a.chain.now a.size a.t a.c right _ traces c.in-None.is; goes_low = tt }

pub returns-in-Some : goal.returns-in-Some
returns-in-Some c =
    let a = c.args in
    let traces = rw c.from_front-k.ensures at c.retrace.ensures in
    let right = sym c.readable.ensures ∙ c.if-not-readable.false in record { decides_retraced = retrace_ended a.chain.now a.size a.t a.c right _ traces _ c.in-Some.is _ c.walked_to.ensures.walked_to; goes_low = c.walked_to.ensures.goes_low }
