-- `action_five::go_on` meets its contract: by the CCW that comes next. Assumes nothing.
use native.Mathlib.Omega.{arith}
use mathlib.Core.Path.{refl}
use mathlib.Core.List.{[]}
use Rattle.recovery.specs.Recovery.{only_chain}
use Rattle.location.proofs.NextFits.{inside_next}
use Rattle.action_five.proofs.Searched.{next_broken, next_restart, next_chain}
use Rattle.action_five.proofs.go_on.Goals as goal

pub next-requires : goal.next-requires
next-requires c = inside_next c.args.chain.now [] c.args.l c.requires.inside (omega arith) (omega arith)

pub search_restart-requires : goal.search_restart-requires
search_restart-requires c =
    let there = rw (c.in-Ok.is, c.in-Chain.is) at c.resolve.ensures.got_inside in
    omega (arith, there.0, c.requires.chain_len_bound)

pub returns-in-Err : goal.returns-in-Err
unfolding only_chain
returns-in-Err c =
    let a = c.args in
    let q = rw (c.in-Err.is, c.next.ensures) at c.resolve.ensures.resolves in record { goes_on = next_broken a.chain.now a.t a.stayed a.l _ (q (only_chain a.chain.now) refl refl); goes_low = tt }

pub returns-in-Restart : goal.returns-in-Restart
unfolding only_chain
returns-in-Restart c =
    let a = c.args in
    let q = rw (c.in-Ok.is, c.in-Restart.is, c.next.ensures) at c.resolve.ensures.resolves in record { goes_on = next_restart a.chain.now a.t a.stayed a.l _ _ (q (only_chain a.chain.now) refl refl); goes_low = tt }

pub returns-in-Chain : goal.returns-in-Chain
unfolding only_chain
returns-in-Chain c =
    let a = c.args in
    let q = rw (c.in-Ok.is, c.in-Chain.is, c.next.ensures) at c.resolve.ensures.resolves in record { goes_on = next_chain a.chain.now a.t a.stayed a.l _ _ _ (q (only_chain a.chain.now) refl refl) c.search_restart.ensures.search_restarts; goes_low = c.search_restart.ensures.goes_low }
