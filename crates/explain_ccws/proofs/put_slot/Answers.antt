-- `explain_ccws::put_slot` meets its contract. Assumes nothing.
use Rattle.explain_ccws.proofs.Lines.{slot_none, slot_put}
use borrow.Author.Rules.{rules}
use Rattle.explain_ccws.proofs.put_slot.Goals as goal

pub returns-in_default : goal.returns-in_default
returns-in_default c = record { puts = slot_none _ _ _ _ _ _ c.fetch.ensures.fetches _ _ c.in_default.is; upper_bound = search rules }

pub returns : goal.returns
returns c = record { puts = slot_put _ _ _ _ _ _ c.fetch.ensures.fetches c.in-Some.is c.put_ccw.ensures.puts; upper_bound = search rules }
