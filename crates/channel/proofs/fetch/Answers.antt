-- `channel::fetch` meets its contract: a CCW is fetched where one stands. Assumes nothing.
use mathlib.Core.Path.{sym, ◌∙◌}
use Rattle.channel.proofs.Answers.{nothing_stands, one_stands, stands_inside}
use Rattle.channel.proofs.fetch.Goals as goal

pub held-requires : goal.held-requires
held-requires c =
    let a = c.args in
    stands_inside a.chain.now a.program.now a.l (sym c.holds.ensures ∙ c.if-holds.true)

pub returns-then-holds : goal.returns-then-holds
returns-then-holds c =
    let a = c.args in
    let stands = sym c.holds.ensures ∙ c.if-holds.true in record { fetches = one_stands a.chain.now a.program.now a.l stands c.held.ensures.value; fetched_from = (stands_inside a.chain.now a.program.now a.l stands, c.held.ensures.in_bytes) }

pub returns : goal.returns
returns c =
    let a = c.args in record { fetches = nothing_stands a.chain.now a.program.now a.l (sym c.holds.ensures ∙ c.if-holds.false); fetched_from = tt }
