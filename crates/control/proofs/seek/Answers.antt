-- `control::seek` meets its contract: the count, then the argument. Assumes nothing.
use native.Mathlib.Omega.{arith}
use mathlib.Core.Path.{sym, ◌∙◌}
use Rattle.control.proofs.Plans.{count_above, seek_uncounted, seek_performs}
use Rattle.control.proofs.seek.Goals as goal

pub returns-then-not-counted : goal.returns-then-not-counted
returns-then-not-counted c =
    let wrong = sym c.counted.ensures ∙ c.if-not-counted.true in record { performs = seek_uncounted _ _ _ c.refuse.result _ _ _ _ wrong c.refuse.ensures.answers; kept = c.refuse.ensures.kept_always _ }

pub argument_word-zero-requires : goal.argument_word-zero-requires
argument_word-zero-requires c = record { argument_in = c.requires.argument_in; k_bound = count_above _ _ 1 (sym c.counted.ensures ∙ c.if-not-counted.false) (omega arith); in_bytes = c.requires.in_bytes }

pub argument_word-cylinder-requires : goal.argument_word-cylinder-requires
argument_word-cylinder-requires c = record { argument_in = c.requires.argument_in; k_bound = count_above _ _ 3 (sym c.counted.ensures ∙ c.if-not-counted.false) (omega arith); in_bytes = c.requires.in_bytes }

pub argument_word-head-requires : goal.argument_word-head-requires
argument_word-head-requires c = record { argument_in = c.requires.argument_in; k_bound = count_above _ _ 5 (sym c.counted.ensures ∙ c.if-not-counted.false) (omega arith); in_bytes = c.requires.in_bytes }

pub seek_to-requires : goal.seek_to-requires
seek_to-requires c = record { standing = c.requires.standing; low = c.requires.low; in_bytes = c.requires.in_bytes; cylinder_bound = (c.argument_word-cylinder.ensures.upper_bound, c.argument_word-head.ensures.upper_bound) }

pub returns : goal.returns
returns c =
    let right = sym c.counted.ensures ∙ c.if-not-counted.false in record { performs = seek_performs _ _ _ c.seek_to.result _ _ _ _ _ _ _ right c.argument_word-zero.ensures.argument_word c.argument_word-cylinder.ensures.argument_word c.argument_word-head.ensures.argument_word c.seek_to.ensures.seeks; kept = c.seek_to.ensures.kept }
