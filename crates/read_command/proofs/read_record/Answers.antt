-- `read_command::read_record` meets its contract: by what the drive takes. Assumes nothing.
use Rattle.read_command.proofs.Moves.{inside_low}
use Rattle.read_command.proofs.Areas.{read_none, read_taken}
use Rattle.read_command.proofs.read_record.Goals as goal

pub refuse-requires : goal.refuse-requires
refuse-requires c = record { low = inside_low _ _ c.requires.ready.short _ c.requires.ready.inside; in_bytes = c.requires.ready.bytes }

pub read_at-requires : goal.read_at-requires
read_at-requires c =
    let stands = rw c.in-Some.is at c.take.ensures.taken_stands in record { ready = c.requires.ready; begun = c.requires.begun; reads_record = c.requires.reads_record; lies = record { within = stands.1; found = stands.2; belongs = stands.3 } }

pub returns-in-None : goal.returns-in-None
returns-in-None c =
    let start = c.args in
    let none = rw c.in-None.is at c.take.ensures.takes_for in record { carries = read_none _ _ _ _ _ _ start.k start.d _ c.refuse.result none c.refuse.ensures.answers; kept = c.refuse.ensures.kept_always _ }

pub returns-in-Some : goal.returns-in-Some
returns-in-Some c =
    let start = c.args in record { carries = read_taken _ _ _ _ _ _ start.k start.d start.storage.now c.read_at.result _ _ c.in-Some.e (rw c.in-Some.is at c.take.ensures.takes_for) c.read_at.ensures.carries; kept = c.read_at.ensures.kept_with _ (rw c.in-Some.is at c.take.ensures.taken_stands).0 }
