-- `control::set_mask` meets its contract: the count, then the mask. Assumes nothing.
use native.Mathlib.Omega.{arith}
use mathlib.Core.Path.{sym, ◌∙◌}
use Rattle.control.proofs.Plans.{count_above, mask_uncounted, mask_performs}
use Rattle.control.proofs.set_mask.Goals as goal

pub returns-then-not-counted : goal.returns-then-not-counted
returns-then-not-counted c =
    let wrong = sym c.counted.ensures ∙ c.if-not-counted.true in record { performs_always = mask_uncounted _ _ _ c.refuse.result _ _ _ wrong c.refuse.ensures.answers; kept = c.refuse.ensures.kept_always _ }

pub argument_byte-m-requires : goal.argument_byte-m-requires
argument_byte-m-requires c = record { argument_in = c.requires.argument_in; k_lt_count = count_above _ _ 0 (sym c.counted.ensures ∙ c.if-not-counted.false) (omega arith); in_bytes = c.requires.in_bytes }

pub returns : goal.returns
returns c =
    let right = sym c.counted.ensures ∙ c.if-not-counted.false in record { performs_always = mask_performs _ _ _ c.set_mask_to.result _ _ _ _ right c.argument_byte-m.ensures.argument_byte c.set_mask_to.ensures.plans; kept = c.set_mask_to.ensures.kept }
