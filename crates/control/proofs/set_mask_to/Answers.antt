-- `control::set_mask_to` meets its contract: a second mask, then its bits. Assumes nothing.
use native.Mathlib.Omega.{arith}
use mathlib.Core.Path.{sym, ◌∙◌}
use Rattle.control.proofs.Plans.{mask_second, mask_wrong, mask_done}
use Rattle.location.proofs.NextFits.{low_next}
use Rattle.control.proofs.set_mask_to.Goals as goal

pub returns-then-is_set : goal.returns-then-is_set
returns-then-is_set c = record { plans = mask_second _ _ _ c.refuse.result _ (sym c.is_set.ensures ∙ c.if-is_set.true) c.refuse.ensures.answers; kept = c.refuse.ensures.kept_always _ }

pub returns-then-not-settable : goal.returns-then-not-settable
returns-then-not-settable c = record { plans = mask_wrong _ _ _ c.refuse-then-not-settable.result _ (sym c.settable.ensures ∙ c.if-not-settable.true) c.refuse-then-not-settable.ensures.answers; kept = c.refuse-then-not-settable.ensures.kept_always _ }

pub next-requires : goal.next-requires
next-requires c = low_next _ (omega arith)

pub returns : goal.returns
returns c =
    let first = sym c.is_set.ensures ∙ c.if-is_set.false in
    let right = sym c.settable.ensures ∙ c.if-not-settable.false in record { plans = mask_done _ _ _ c.onward.result _ first right c.next.ensures c.masked.ensures.value c.onward.ensures.answers; kept = c.onward.ensures.kept_with _ c.masked.ensures.standing }
