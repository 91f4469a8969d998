-- `action_nine_eleven::overflow_at` meets its contract: the first CCW, sense byte 3, then the data chain. Assumes nothing.
use mathlib.Core.Path.{ap, sym, ◌∙◌}
use Rattle.recovery.specs.Recovery.{reads_data}
use Rattle.recovered.proofs.Fetched.{ccw_there, ccw_gone}
use Rattle.action_nine_eleven.proofs.Overflows.{no_ccw, not_data, not_overflow, unreadable, walks}
use Rattle.action_nine_eleven.proofs.overflow_at.Goals as goal

pub returns-in_default : goal.returns-in_default
returns-in_default c =
    let a = c.args in record { overflows = no_ccw a.chain.now a.size a.t a.a a.kind (ccw_gone _ _ (rw c.in_default.is at c.fetch.ensures.fetches)); goes_low = tt }

pub returns-then-not-reads_data : goal.returns-then-not-reads_data
returns-then-not-reads_data c =
    let a = c.args in
    let there = ccw_there _ _ _ (rw c.in-Some.is at c.fetch.ensures.fetches) in
    let no = ap reads_data (sym c.from.ensures) ∙ sym c.reads_data.ensures ∙ c.if-not-reads_data.true in record { overflows = not_data a.chain.now a.size a.t a.a a.kind _ there no; goes_low = tt }

pub returns-then-s-ne6 : goal.returns-then-s-ne6
returns-then-s-ne6 c =
    let a = c.args in
    let there = ccw_there _ _ _ (rw c.in-Some.is at c.fetch.ensures.fetches) in
    let yes = ap reads_data (sym c.from.ensures) ∙ sym c.reads_data.ensures ∙ c.if-not-reads_data.false in record { overflows = not_overflow a.chain.now a.size a.t a.a a.kind _ there yes c.if-s-ne6.true; goes_low = tt }

pub readable-requires : goal.readable-requires
readable-requires c =
    (rw c.in-Some.is at c.fetch.ensures.fetched_from).1

pub returns-then-not-readable : goal.returns-then-not-readable
returns-then-not-readable c =
    let a = c.args in
    let there = ccw_there _ _ _ (rw c.in-Some.is at c.fetch.ensures.fetches) in
    let yes = ap reads_data (sym c.from.ensures) ∙ sym c.reads_data.ensures ∙ c.if-not-reads_data.false in
    let wrong = sym c.readable.ensures ∙ c.if-not-readable.true in record { overflows = unreadable a.chain.now a.size a.t a.a a.kind _ there yes c.if-s-ne6.false wrong; goes_low = tt }

pub walk_end-w-requires : goal.walk_end-w-requires
walk_end-w-requires c =
    let there = rw c.in-Some.is at c.fetch.ensures.fetched_from in record { inside = there.0; in_bytes = there.1; c_value = sym c.readable.ensures ∙ c.if-not-readable.false; size_bound = c.requires.size_bound }

pub walked_to-requires : goal.walked_to-requires
walked_to-requires c = record { chain_len_bound = c.requires.chain_len_bound; end_usable = c.walk_end-w.ensures.end_usable }

pub returns : goal.returns
returns c =
    let a = c.args in
    let there = ccw_there _ _ _ (rw c.in-Some.is at c.fetch.ensures.fetches) in
    let yes = ap reads_data (sym c.from.ensures) ∙ sym c.reads_data.ensures ∙ c.if-not-reads_data.false in
    let right = sym c.readable.ensures ∙ c.if-not-readable.false in record { overflows = walks a.chain.now a.size a.t a.a a.kind _ there yes c.if-s-ne6.false _ _ right c.walk_end-w.ensures.walks_to c.walked_to.ensures.walked_to; goes_low = c.walked_to.ensures.goes_low }
