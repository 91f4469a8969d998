-- `reading_session::run` meets its contract. Assumes nothing.
use Prim.Native.Nat.{◌≤◌}
use native.Mathlib.Omega.{arith}
use lib.ListN.{length}
use Rattle.text.proofs.Written.{within}
use Rattle.reading_lines.specs.Lines.{room}
use Rattle.reading_session.proofs.Shown.{bad_shown, bad_stored, whole_shown, whole_stored, ordered}
use borrow.Author.Rules.{rules}
use Rattle.reading_session.proofs.run.Goals as goal

pub returns-in_default : goal.returns-in_default
returns-in_default c =
    let fits : room ≤ length c.args.out.now = search rules in record { text = bad_shown _ _ c.find.ensures.value c.in_default.is c.put_refusal.ensures.puts; length = within c.put_refusal.ensures.puts (omega (arith, c.put_refusal.ensures.value)); storage = bad_stored _ _ c.find.ensures.value c.in_default.is }

pub read_parts-requires : goal.read_parts-requires
read_parts-requires c = record { ordered = ordered c.in-Some.is c.find.ensures.inside; room_in_bounds = search rules }

pub returns : goal.returns
returns c =
    let fits : room ≤ length c.args.out.now = search rules in record { text = whole_shown _ _ c.find.ensures.value c.in-Some.is c.read_parts.ensures.puts; length = within c.read_parts.ensures.puts (omega (arith, c.read_parts.ensures.upper_bound)); storage = whole_stored _ _ c.find.ensures.value c.in-Some.is c.read_parts.ensures.storage_after }
