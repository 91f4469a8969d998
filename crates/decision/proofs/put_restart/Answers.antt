-- `decision::put_restart` meets its contract: by how the restart comes to its record. Assumes nothing.
use mathlib.Core.Path.{sym, ◌∙◌}
use Rattle.decision.specs.Decision.{program_by, arguments_by}
use Rattle.decision.proofs.put_restart.Goals as goal

pub returns-in-Search : goal.returns-in-Search
unfolding program_by arguments_by
returns-in-Search c =
    let is = sym c.orient.ensures ∙ c.in-Search.is in record { program_after = rw is c.search_program.ensures; restart_arguments_after = rw is c.search_arguments.ensures }

pub returns-in-Home : goal.returns-in-Home
unfolding program_by arguments_by
returns-in-Home c =
    let is = sym c.orient.ensures ∙ c.in-Home.is in record { program_after = rw is c.home_program.ensures; restart_arguments_after = rw is c.begin_arguments.ensures }
