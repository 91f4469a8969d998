-- `report::user_of` meets its contract: by whether the report has a seek argument. Assumes nothing.
use Rattle.base.specs.Choice.{opt}
use Rattle.recovery.specs.Recovery.{user_track}
use Rattle.report.proofs.user_of.Goals as goal

pub returns-in_err-at-clause-user_of : goal.returns-in_err-at-clause-user_of
unfolding user_track opt
returns-in_err-at-clause-user_of c = rw (c.from_residual.ensures, c.in_err-at.was)

pub user_track-requires : goal.user_track-requires
user_track-requires c = rw c.in_ok-at.was at c.requires

pub returns : goal.returns
returns c = record { user_of = rw c.in_ok-at.was c.user_track.ensures.user_at; user_low = c.user_track.ensures.user_low }
