-- `reading_lines::put_recoveries` meets its contract. Invariant: the lines that are left, put where the loop stands, make the whole. Measure: the
-- recoveries left. Assumes nothing.
use Rattle.reading_lines.proofs.Texts.{recoveries_turn, recoveries_none}
use borrow.Author.Rules.{rules}
use Rattle.reading_lines.proofs.put_recoveries.Goals as goal

pub loop-left-init : goal.loop-left-init
loop-left-init c = (search rules, search rules, search rules, λ z q p. p)

pub loop-left-preserved : goal.loop-left-preserved
loop-left-preserved c =
    let l = c.args.list.now in (
      search rules,
      search rules,
      search rules,
      λ z q p. c.loop-left.invariant.3 z q (recoveries_turn l c.loop-left.from _ c.loop-left-test.true c.put_recovery-next.ensures.puts z q p),
    )

pub returns : goal.returns
returns c =
    let l = c.args.list.now in record { puts = c.loop-left.invariant.3 _ _ (recoveries_none l c.loop-left.from _ c.loop-left-test.false); upper_bound = search rules }
