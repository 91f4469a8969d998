-- `explain_session::run` meets its contract. Assumes nothing.
use Prim.Native.Nat.{◌≤◌}
use lib.ListN.{length}
use Rattle.text.proofs.Written.{within}
use Rattle.explain_session.specs.Session.{room}
use Rattle.explain_session.proofs.Told.{bad_put, whole_put, ordered}
use borrow.Author.Rules.{rules}
use native.Mathlib.Omega.{arith}
use Rattle.explain_session.proofs.run.Goals as goal

pub returns-in_default : goal.returns-in_default
returns-in_default c =
    let fits : room ≤ length c.args.out.now = search rules in record { text = bad_put _ _ c.find.ensures.value c.in_default.is c.put_refusal.ensures.puts; length = within c.put_refusal.ensures.puts (omega (arith, c.put_refusal.ensures.upper_bound)) }

pub put_parts-requires : goal.put_parts-requires
put_parts-requires c = record { ordered = ordered c.in-Some.is c.find.ensures.inside; room_in_bounds = search rules }

pub returns : goal.returns
returns c =
    let fits : room ≤ length c.args.out.now = search rules in record { text = whole_put _ _ c.find.ensures.value c.in-Some.is c.put_parts.ensures.puts; length = within c.put_parts.ensures.puts (omega (arith, c.put_parts.ensures.upper_bound)) }
