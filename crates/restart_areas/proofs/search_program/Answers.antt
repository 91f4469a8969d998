-- `restart_areas::search_program` meets its contract: the CCWs behind the program's front are laws of `search_program`. Assumes nothing.
use Rattle.restart_areas.proofs.Areas.{by_12, by_92, with_counts, without}
use Rattle.restart_areas.proofs.search_program.Goals as goal

pub returns-in-Omitted : goal.returns-in-Omitted
returns-in-Omitted c =
    without _ _ _ c.begin-at.ensures.program_after c.begin-at.ensures.value _ c.put_ccw.ensures c.put_ccw-2.ensures
    c.in-Omitted.is c.put_ccw-in-Omitted.ensures

pub returns-in-Single : goal.returns-in-Single
returns-in-Single c =
    with_counts _ _ _ c.begin-at.ensures.program_after c.begin-at.ensures.value _ c.put_ccw.ensures c.put_ccw-2.ensures
    0x12 (rw c.in-Single.is by_12) c.put_ccw-in-Single.ensures c.put_ccw-in-Single-2.ensures

pub returns-in-Multitrack : goal.returns-in-Multitrack
returns-in-Multitrack c =
    with_counts _ _ _ c.begin-at.ensures.program_after c.begin-at.ensures.value _ c.put_ccw.ensures c.put_ccw-2.ensures
    0x92 (rw c.in-Multitrack.is by_92) c.put_ccw-in-Multitrack.ensures c.put_ccw-in-Multitrack-2.ensures
