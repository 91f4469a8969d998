-- `action_eight_ten::seek_restart` meets its contract: CC, then the CCW that comes next. Assumes nothing.
use native.Mathlib.Omega.{arith}
use mathlib.Core.Path.{refl, sym, ◌∙◌}
use Rattle.recovery.specs.Recovery.{only_chain}
use Rattle.action_eight_ten.proofs.Restarts.{last_seek, next_broken, next_restart, next_chain}
use Rattle.action_eight_ten.proofs.seek_restart.Goals as goal

pub returns-then-not-chains_command : goal.returns-then-not-chains_command
returns-then-not-chains_command c =
    let a = c.args in record { seek_restarts = last_seek a.chain.now a.csw a.mask a.a a.c (sym c.chains_command.ensures ∙ c.if-not-chains_command.true); goes_low = tt }

pub home-requires : goal.home-requires
home-requires c =
    let there = rw (c.in-Ok.is, c.in-Chain.is) at c.resolve.ensures.got_inside in record { to_bound = omega (arith, there.0, c.requires.chain_len_bound); kind_value = refl }

pub returns-in-Err : goal.returns-in-Err
unfolding only_chain
returns-in-Err c =
    let a = c.args in
    let on = sym c.chains_command.ensures ∙ c.if-not-chains_command.false in
    let q = rw c.in-Err.is at c.resolve.ensures.resolves in record { seek_restarts = next_broken a.chain.now a.csw a.mask a.a a.c on _ (q (only_chain a.chain.now) refl refl); goes_low = tt }

pub returns-in-Restart : goal.returns-in-Restart
unfolding only_chain
returns-in-Restart c =
    let a = c.args in
    let on = sym c.chains_command.ensures ∙ c.if-not-chains_command.false in
    let q = rw (c.in-Ok.is, c.in-Restart.is) at c.resolve.ensures.resolves in record { seek_restarts = next_restart a.chain.now a.csw a.mask a.a a.c on _ _ (q (only_chain a.chain.now) refl refl); goes_low = tt }

pub returns-in-Chain : goal.returns-in-Chain
unfolding only_chain
returns-in-Chain c =
    let a = c.args in
    let on = sym c.chains_command.ensures ∙ c.if-not-chains_command.false in
    let q = rw (c.in-Ok.is, c.in-Chain.is) at c.resolve.ensures.resolves in record { seek_restarts = next_chain a.chain.now a.csw a.mask a.a a.c on _ _ _ (q (only_chain a.chain.now) refl refl) c.home.ensures.homes; goes_low = c.home.ensures.goes_low }
