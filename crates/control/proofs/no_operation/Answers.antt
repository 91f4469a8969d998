-- `control::no_operation` meets its contract: CD decides. Assumes nothing.
use native.Mathlib.Omega.{arith}
use mathlib.Core.Path.{sym, ◌∙◌}
use Rattle.control.proofs.Plans.{noop_rejected, noop_done}
use Rattle.location.proofs.NextFits.{low_next}
use Rattle.control.proofs.no_operation.Goals as goal

pub returns-then-chains_data : goal.returns-then-chains_data
returns-then-chains_data c = record { plans = noop_rejected _ _ _ c.refuse.result (sym c.chains_data.ensures ∙ c.if-chains_data.true) c.refuse.ensures.answers; kept = c.refuse.ensures.kept_always _ }

pub next-requires : goal.next-requires
next-requires c = low_next _ (omega arith)

pub returns : goal.returns
returns c =
    let free = sym c.chains_data.ensures ∙ c.if-chains_data.false in record { plans = noop_done _ _ _ c.onward.result free c.next.ensures c.at_index.ensures.value c.onward.ensures.answers; kept = c.onward.ensures.kept_with _ c.at_index.ensures.standing }
