-- `restart_areas::home_program` meets its contract: the CCWs behind the program's front are a law of `program_of`. Assumes nothing.
use Rattle.restart_areas.proofs.Areas.{home}
use Rattle.restart_areas.proofs.home_program.Goals as goal

pub returns : goal.returns
returns c =
    home _ _ _ c.begin-at.ensures.program_after c.begin-at.ensures.value c.put_ccw.ensures c.put_ccw-2.ensures
