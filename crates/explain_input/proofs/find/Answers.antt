-- `explain_input::find` meets its contract: each answer is a law of `parts_of` at the fields that were found. Assumes nothing.
use mathlib.Core.Path.{sym, ◌∙◌}
use Rattle.fields.proofs.WantedAt.{wanted_bounds}
use Rattle.explain_input.proofs.Walk.{too_long, no_chain, no_extent, more_behind, parts_found, last_inside}
use native.Mathlib.Omega.{arith}
use Rattle.explain_input.proofs.find.Goals as goal

pub returns-then-input-gt60000 : goal.returns-then-input-gt60000
returns-then-input-gt60000 c = record { value = too_long _ c.if-input-gt60000.true; inside = tt }

pub returns-in_err-chain : goal.returns-in_err-chain
returns-in_err-chain c = rw c.from_residual.ensures (record { value = no_chain _ c.if-input-gt60000.false (sym c.wanted_at.ensures ∙ c.in_err-chain.was); inside = tt })

pub last_at-requires : goal.last_at-requires
last_at-requires c = (wanted_bounds _ _ _ (sym c.wanted_at.ensures ∙ c.in_ok-chain.was)).2

pub returns-in_err-last : goal.returns-in_err-last
returns-in_err-last c =
    let e = sym c.wanted_at.ensures ∙ c.in_ok-chain.was in
    rw c.from_residual-in_err-last.ensures (record { value = no_extent _ c.if-input-gt60000.false e (sym c.last_at.ensures.value ∙ c.in_err-last.was); inside = tt })

pub returns-then-last-input : goal.returns-then-last-input
returns-then-last-input c =
    let e = sym c.wanted_at.ensures ∙ c.in_ok-chain.was in
    let l = sym c.last_at.ensures.value ∙ c.in_ok-last.was in
    record { value = more_behind _ c.if-input-gt60000.false e l c.if-last-input.true; inside = tt }

pub returns : goal.returns
returns c =
    let e = sym c.wanted_at.ensures ∙ c.in_ok-chain.was in
    let l = sym c.last_at.ensures.value ∙ c.in_ok-last.was in
    let w = last_inside c.in_ok-last.was c.last_at.ensures.inside in
    record {
      value = parts_found _ c.if-input-gt60000.false e l c.if-last-input.false;
      inside = record { chain = (wanted_bounds _ _ _ e).1; report = w.0; end = w.1; extent = omega (arith, w.2, w.3) };
    }
