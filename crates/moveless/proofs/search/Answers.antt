-- `moveless::search` meets its contract: the count, then what is examined for the five bytes. Assumes nothing.
use native.Mathlib.Omega.{arith}
use mathlib.Core.Path.{sym, ◌∙◌}
use Rattle.control.proofs.Plans.{count_above, search_uncounted, search_performs}
use Rattle.moveless.proofs.search.Goals as goal

pub returns-then-not-counted : goal.returns-then-not-counted
returns-then-not-counted c =
    let wrong = sym c.counted.ensures ∙ c.if-not-counted.true in record { performs_always = search_uncounted _ _ _ c.refuse.result _ _ _ wrong c.refuse.ensures.answers; kept = c.refuse.ensures.kept_always _ }

pub argument_byte-b0-requires : goal.argument_byte-b0-requires
argument_byte-b0-requires c = record { argument_in = c.requires.argument_in; k_lt_count = count_above _ _ 0 (sym c.counted.ensures ∙ c.if-not-counted.false) (omega arith); in_bytes = c.requires.in_bytes }

pub argument_byte-b1-requires : goal.argument_byte-b1-requires
argument_byte-b1-requires c = record { argument_in = c.requires.argument_in; k_lt_count = count_above _ _ 1 (sym c.counted.ensures ∙ c.if-not-counted.false) (omega arith); in_bytes = c.requires.in_bytes }

pub argument_byte-b2-requires : goal.argument_byte-b2-requires
argument_byte-b2-requires c = record { argument_in = c.requires.argument_in; k_lt_count = count_above _ _ 2 (sym c.counted.ensures ∙ c.if-not-counted.false) (omega arith); in_bytes = c.requires.in_bytes }

pub argument_byte-b3-requires : goal.argument_byte-b3-requires
argument_byte-b3-requires c = record { argument_in = c.requires.argument_in; k_lt_count = count_above _ _ 3 (sym c.counted.ensures ∙ c.if-not-counted.false) (omega arith); in_bytes = c.requires.in_bytes }

pub argument_byte-b4-requires : goal.argument_byte-b4-requires
argument_byte-b4-requires c = record { argument_in = c.requires.argument_in; k_lt_count = count_above _ _ 4 (sym c.counted.ensures ∙ c.if-not-counted.false) (omega arith); in_bytes = c.requires.in_bytes }

pub searched-requires : goal.searched-requires
searched-requires c = record { low = c.requires.low; in_bytes = c.requires.in_bytes }

pub returns : goal.returns
returns c =
    let right = sym c.counted.ensures ∙ c.if-not-counted.false in record { performs_always = search_performs _ _ c.args.d c.searched.result _ _ _ _ _ _ _ _ c.examine.result right c.requires.argument_in c.argument_byte-b0.ensures.argument_byte c.argument_byte-b1.ensures.argument_byte c.argument_byte-b2.ensures.argument_byte c.argument_byte-b3.ensures.argument_byte c.argument_byte-b4.ensures.argument_byte c.examine.ensures.examines c.searched.ensures.plans; kept = c.searched.ensures.kept_behind _ c.examine.ensures.examined_stands }
