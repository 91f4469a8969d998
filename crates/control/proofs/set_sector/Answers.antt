-- `control::set_sector` meets its contract: the count, then the sector. Assumes nothing.
use native.Mathlib.Omega.{arith}
use mathlib.Core.Path.{sym, ◌∙◌}
use Rattle.control.proofs.Plans.{count_above, sector_uncounted, sector_wrong, sector_performs}
use Rattle.location.proofs.NextFits.{low_next}
use Rattle.control.proofs.set_sector.Goals as goal

pub returns-then-not-counted : goal.returns-then-not-counted
returns-then-not-counted c =
    let wrong = sym c.counted.ensures ∙ c.if-not-counted.true in record { performs_always = sector_uncounted _ _ _ c.refuse.result _ _ _ wrong c.refuse.ensures.answers; kept = c.refuse.ensures.kept_always _ }

pub argument_byte-n-requires : goal.argument_byte-n-requires
argument_byte-n-requires c = record { argument_in = c.requires.argument_in; k_lt_count = count_above _ _ 0 (sym c.counted.ensures ∙ c.if-not-counted.false) (omega arith); in_bytes = c.requires.in_bytes }

pub returns-then-not-is_sector : goal.returns-then-not-is_sector
returns-then-not-is_sector c =
    let right = sym c.counted.ensures ∙ c.if-not-counted.false in
    let wrong = sym c.is_sector.ensures ∙ c.if-not-is_sector.true in record { performs_always = sector_wrong _ _ _ c.refuse-then-not-is_sector.result _ _ _ _ right c.argument_byte-n.ensures.argument_byte wrong c.refuse-then-not-is_sector.ensures.answers; kept = c.refuse-then-not-is_sector.ensures.kept_always _ }

pub next-requires : goal.next-requires
next-requires c = low_next _ (omega arith)

pub returns : goal.returns
returns c =
    let right = sym c.counted.ensures ∙ c.if-not-counted.false in
    let there = sym c.is_sector.ensures ∙ c.if-not-is_sector.false in record { performs_always = sector_performs _ _ _ c.onward.result _ _ _ _ right c.argument_byte-n.ensures.argument_byte there c.next.ensures c.at_index.ensures.value c.onward.ensures.answers; kept = c.onward.ensures.kept_with _ c.at_index.ensures.standing }
