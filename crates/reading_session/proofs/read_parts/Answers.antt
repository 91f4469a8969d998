-- `reading_session::read_parts` meets its contract: the lines are those of the answer that the reading gives. Assumes nothing.
use Rattle.reading_session.proofs.Shown.{parts_shown, parts_stored}
use borrow.Author.Rules.{rules}
use Rattle.reading_session.proofs.read_parts.Goals as goal

pub put-requires : goal.put-requires
put-requires c = record { made_within = c.read-r.ensures.made; in_bounds = search rules; room_in_bounds = search rules }

pub returns : goal.returns
returns c =
    let a = c.args in record { puts = parts_shown a.input.now a.storage.now _ _ _ _ a.p _ c.read-r.ensures.answers c.put.ensures.puts; upper_bound = c.put.ensures.upper_bound; storage_after = parts_stored a.input.now a.storage.now _ _ _ _ a.p _ c.read-r.ensures.answers }
