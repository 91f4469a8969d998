-- `reading_input::find` meets its contract: each answer is a law of `parts_of` at the fields that were found. Assumes nothing.
use mathlib.Core.Path.{sym, ◌∙◌}
use Rattle.fields.proofs.WantedAt.{wanted_bounds}
use Rattle.reading_input.proofs.Walk.{too_long, no_chain, no_arguments, no_extent, found}
use Rattle.reading_input.proofs.find.Goals as goal

pub returns-then-input-gt60000 : goal.returns-then-input-gt60000
returns-then-input-gt60000 c = record { value = too_long _ c.if-input-gt60000.true; inside = tt }

pub returns-in_err-chain : goal.returns-in_err-chain
returns-in_err-chain c = rw c.from_residual.ensures (record { value = no_chain _ c.if-input-gt60000.false (sym c.wanted_at.ensures ∙ c.in_err-chain.was); inside = tt })

pub returns-in_err-arguments : goal.returns-in_err-arguments
returns-in_err-arguments c =
    let e = sym c.wanted_at.ensures ∙ c.in_ok-chain.was in
    rw c.from_residual-in_err-arguments.ensures (record { value = no_arguments _ c.if-input-gt60000.false e (sym c.wanted_at-2.ensures ∙ c.in_err-arguments.was); inside = tt })

pub returns-in_err-extent : goal.returns-in_err-extent
returns-in_err-extent c =
    let e₁ = sym c.wanted_at-2.ensures ∙ c.in_ok-arguments.was in
    let e = sym c.wanted_at.ensures ∙ c.in_ok-chain.was in
    rw c.from_residual-in_err-extent.ensures (record { value = no_extent _ c.if-input-gt60000.false e e₁ (sym c.wanted_at-3.ensures ∙ c.in_err-extent.was); inside = tt })

pub image_at-requires : goal.image_at-requires
image_at-requires c =
    (wanted_bounds _ _ _ (sym c.wanted_at-3.ensures ∙ c.in_ok-extent.was)).2

pub returns : goal.returns
returns c =
    let e₂ = sym c.wanted_at-3.ensures ∙ c.in_ok-extent.was in
    let e₁ = sym c.wanted_at-2.ensures ∙ c.in_ok-arguments.was in
    let e = sym c.wanted_at.ensures ∙ c.in_ok-chain.was in
    let b = wanted_bounds _ _ _ e in
    let b₁ = wanted_bounds _ _ _ e₁ in
    let b₂ = wanted_bounds _ _ _ e₂ in record {
      value = found _ c.if-input-gt60000.false e e₁ e₂ c.image_at.ensures.value;
      inside = record {
        chain = b.1;
        second = b.2;
        arguments = b₁.1;
        third = b₁.2;
        extent = b₂.1;
        faults = c.image_at.ensures.lower_bound;
        image = c.image_at.ensures.upper_bound;
      };
    }
