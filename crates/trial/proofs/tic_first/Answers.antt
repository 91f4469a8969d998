-- `trial::tic_first` meets its contract: what stands at the place decides. Assumes nothing.
use Rattle.trial.proofs.Runs.{past_first, tic_is}
use Rattle.trial.proofs.tic_first.Goals as goal

pub returns-in-Some : goal.returns-in-Some
returns-in-Some c =
    let f = rw c.in-Some.is at c.fetch.ensures.fetches in
    λ p e h. tic_is _ _ _ (f p e h) c.is_tic.ensures

pub returns-in-None : goal.returns-in-None
returns-in-None c =
    let f = rw c.in-None.is at c.fetch.ensures.fetches in
    λ p e h. past_first _ _ (f p e h)
