-- `action_five::five` meets its contract: format, first CCW, displacements, then the data chain. Assumes nothing.
use mathlib.Core.Path.{ap, sym, ◌∙◌}
use Rattle.recovery.specs.Recovery.{reads_data}
use Rattle.recovered.proofs.Fetched.{ccw_there, ccw_gone}
use Rattle.action_five.proofs.Fives.{wrong_format, no_ccw, not_data, not_sensible, goes_over}
use Rattle.action_five.proofs.five.Goals as goal

pub returns-then-s-ne83 : goal.returns-then-s-ne83
returns-then-s-ne83 c =
    let a = c.args in record { decides = wrong_format a.chain.now a.size a.t c.if-s-ne83.true; goes_low = tt }

pub returns-in_default : goal.returns-in_default
returns-in_default c =
    let a = c.args in record { decides = no_ccw a.chain.now a.size a.t c.if-s-ne83.false (ccw_gone _ _ (rw c.in_default.is at c.fetch.ensures.fetches)); goes_low = tt }

pub returns-then-not-reads_data : goal.returns-then-not-reads_data
returns-then-not-reads_data c =
    let a = c.args in
    let no = ap reads_data (sym c.from.ensures) ∙ sym c.reads_data.ensures ∙ c.if-not-reads_data.true in record { decides = not_data a.chain.now a.size a.t c.if-s-ne83.false _ (ccw_there _ _ _ (rw c.in-Some.is at c.fetch.ensures.fetches)) no; goes_low = tt }

pub returns-then-not-sensible : goal.returns-then-not-sensible
returns-then-not-sensible c =
    let a = c.args in
    let yes = ap reads_data (sym c.from.ensures) ∙ sym c.reads_data.ensures ∙ c.if-not-reads_data.false in record { decides = not_sensible a.chain.now a.size a.t c.if-s-ne83.false _ (ccw_there _ _ _ (rw c.in-Some.is at c.fetch.ensures.fetches)) yes _ c.sensible.ensures.sensible (c.if-not-sensible.true); goes_low = tt }

pub retraced-requires : goal.retraced-requires
retraced-requires c =
    let there = rw c.in-Some.is at c.fetch.ensures.fetched_from in record { chain_len_bound = c.requires; inside = there.0; in_bytes = there.1; in_bounds = c.sensible.ensures.in_bounds (c.if-not-sensible.false) }

pub returns : goal.returns
returns c =
    let a = c.args in
    let yes = ap reads_data (sym c.from.ensures) ∙ sym c.reads_data.ensures ∙ c.if-not-reads_data.false in record { decides = goes_over a.chain.now a.size a.t c.if-s-ne83.false _ (ccw_there _ _ _ (rw c.in-Some.is at c.fetch.ensures.fetches)) yes _ c.sensible.ensures.sensible _ (c.if-not-sensible.false) c.retraced.ensures.decides_retraced; goes_low = c.retraced.ensures.goes_low }
