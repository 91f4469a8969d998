-- `control::seek_to` meets its contract: the argument, then the mask. Assumes nothing.
use native.Mathlib.Omega.{arith}
use mathlib.Core.Path.{sym, ◌∙◌}
use Rattle.control.proofs.Plans.{seek_first, seek_off, seek_protected, seek_done}
use Rattle.location.proofs.NextFits.{low_next}
use Rattle.control.proofs.seek_to.Goals as goal

pub returns-then-zero-ne0 : goal.returns-then-zero-ne0
returns-then-zero-ne0 c = record { seeks = seek_first _ _ _ c.refuse.result _ _ _ c.if-zero-ne0.true c.refuse.ensures.answers; kept = c.refuse.ensures.kept_always _ }

pub returns-then-not-on : goal.returns-then-not-on
returns-then-not-on c = record { seeks = seek_off _ _ _ c.refuse-then-not-on.result _ _ _ (sym c.on_pack-on.ensures ∙ c.if-not-on.true) c.refuse-then-not-on.ensures.answers; kept = c.refuse-then-not-on.ensures.kept_always _ }

pub returns-then-barred : goal.returns-then-barred
returns-then-barred c =
    let on = sym c.on_pack-on.ensures ∙ c.if-not-on.false in
    let masked = sym c.protects-barred.ensures ∙ c.if-barred.true in record { seeks = seek_protected _ _ _ c.refuse-then-barred.result _ _ _ c.if-zero-ne0.false on masked c.refuse-then-barred.ensures.answers; kept = c.refuse-then-barred.ensures.kept_always _ }

pub next-requires : goal.next-requires
next-requires c = low_next _ (omega arith)

pub returns : goal.returns
returns c =
    let on = sym c.on_pack-on.ensures ∙ c.if-not-on.false in
    let free = sym c.protects-barred.ensures ∙ c.if-barred.false in record { seeks = seek_done _ _ _ c.onward.result _ _ _ c.if-zero-ne0.false on free c.next.ensures c.sought.ensures.value c.onward.ensures.answers; kept = c.onward.ensures.kept_with _ c.sought.ensures.stands }
