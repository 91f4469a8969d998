-- `overflow_restart::from_interrupted` meets its contract: whether the CCW chains, then the CCW that comes next. Assumes nothing.
use native.Mathlib.Omega.{arith}
use mathlib.Core.Path.{refl, sym, ◌∙◌}
use mathlib.Core.List.{[]}
use Rattle.recovery.specs.Recovery.{only_chain}
use Rattle.location.proofs.NextFits.{inside_next}
use Rattle.overflow_restart.proofs.Restarts.{alone, next_broken, next_restart, next_chain}
use Rattle.overflow_restart.proofs.from_interrupted.Goals as goal

pub resume-requires : goal.resume-requires
resume-requires c =
    let cut = c.requires.interrupted in record { in_bytes = cut.in_bytes; c_value = cut.usable; left_le_count = cut.left; tic_low = tt }

pub returns-then-not-chains : goal.returns-then-not-chains
returns-then-not-chains c =
    let a = c.args in
    let off = sym c.chains.ensures ∙ c.if-not-chains.true in record { goes_from = alone a.mask a.a a.kind a.chain.now a.e _ off c.resume.ensures.overflow_restarts; goes_low = c.resume.ensures.goes_low }

pub next-behind-requires : goal.next-behind-requires
next-behind-requires c = inside_next c.args.chain.now [] c.args.e.at c.requires.interrupted.inside (omega arith) (omega arith)

pub resume-requires-in-Chain : goal.resume-requires-in-Chain
resume-requires-in-Chain c =
    let cut = c.requires.interrupted in
    let there = rw (c.in-Ok.is, c.in-Chain.is) at c.resolve.ensures.got_inside in record { in_bytes = cut.in_bytes; c_value = cut.usable; left_le_count = cut.left; tic_low = omega (arith, there.0, c.requires.chain_len_bound) }

pub returns-in-Err : goal.returns-in-Err
unfolding only_chain
returns-in-Err c =
    let a = c.args in
    let on = sym c.chains.ensures ∙ c.if-not-chains.false in
    let q = rw (c.in-Err.is, c.next-behind.ensures) at c.resolve.ensures.resolves in record { goes_from = next_broken a.mask a.a a.kind a.chain.now a.e on _ (q (only_chain a.chain.now) refl refl); goes_low = tt }

pub returns-in-Restart : goal.returns-in-Restart
unfolding only_chain
returns-in-Restart c =
    let a = c.args in
    let on = sym c.chains.ensures ∙ c.if-not-chains.false in
    let q = rw (c.in-Ok.is, c.in-Restart.is, c.next-behind.ensures) at c.resolve.ensures.resolves in record { goes_from = next_restart a.mask a.a a.kind a.chain.now a.e on _ _ (q (only_chain a.chain.now) refl refl); goes_low = tt }

pub returns-in-Chain : goal.returns-in-Chain
unfolding only_chain
returns-in-Chain c =
    let a = c.args in
    let on = sym c.chains.ensures ∙ c.if-not-chains.false in
    let q = rw (c.in-Ok.is, c.in-Chain.is, c.next-behind.ensures) at c.resolve.ensures.resolves in record { goes_from = next_chain a.mask a.a a.kind a.chain.now a.e on _ _ _ (q (only_chain a.chain.now) refl refl) c.resume-in-Chain.ensures.overflow_restarts; goes_low = c.resume-in-Chain.ensures.goes_low }
