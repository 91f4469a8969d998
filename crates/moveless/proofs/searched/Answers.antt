-- `moveless::searched` meets its contract by cases of what was examined. Assumes nothing.
use native.Mathlib.Omega.{arith}
use Rattle.control.proofs.Plans.{next_low, search_equal, search_unequal, search_passed}
use Rattle.location.proofs.NextFits.{low_next}
use Rattle.moveless.proofs.searched.Goals as goal

pub next-requires : goal.next-requires
next-requires c = low_next _ (omega arith)

pub next-requires-in-Equal : goal.next-requires-in-Equal
next-requires-in-Equal c = low_next _ (next_low _ _ c.next.ensures c.requires.low)

pub next-requires-in-Unequal : goal.next-requires-in-Unequal
next-requires-in-Unequal c = low_next _ (omega arith)

pub returns-in-Equal : goal.returns-in-Equal
returns-in-Equal c =
    let skip = search_equal _ _ _ c.onward.result c.in-Equal.e c.next.ensures c.next-in-Equal.ensures c.onward.ensures.answers in record { plans = rw c.in-Equal.is skip; kept_behind = λ image s. c.onward.ensures.kept_with image (rw c.in-Equal.is at s) }

pub returns-in-Unequal : goal.returns-in-Unequal
returns-in-Unequal c =
    let on = search_unequal _ _ _ c.onward-in-Unequal.result c.in-Unequal.e c.next-in-Unequal.ensures c.onward-in-Unequal.ensures.answers in record { plans = rw c.in-Unequal.is on; kept_behind = λ image s. c.onward-in-Unequal.ensures.kept_with image (rw c.in-Unequal.is at s) }

pub returns-in-Passed : goal.returns-in-Passed
returns-in-Passed c = record { plans = rw c.in-Passed.is (search_passed _ _ _ c.refuse.result c.refuse.ensures.answers); kept_behind = λ image s. c.refuse.ensures.kept_always image }
