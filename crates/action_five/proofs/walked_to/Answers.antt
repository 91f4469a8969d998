-- `action_five::walked_to` meets its contract: by whether the CSW agrees. Assumes nothing.
use mathlib.Core.Path.{sym, ◌∙◌}
use Rattle.location.proofs.NextFits.{chain_low}
use Rattle.action_five.proofs.Searched.{disagrees, agrees_on}
use Rattle.action_five.proofs.walked_to.Goals as goal

pub agrees-requires : goal.agrees-requires
agrees-requires c = chain_low _ c.requires.chain_len_bound _ c.requires.inside

pub returns-then-not-agrees : goal.returns-then-not-agrees
returns-then-not-agrees c =
    let a = c.args in record { walked_to = disagrees a.chain.now a.t a.e _ c.incorrect_length-wrong.ensures (sym c.agrees.ensures ∙ c.if-not-agrees.true); goes_low = tt }

pub returns : goal.returns
returns c =
    let a = c.args in record { walked_to = agrees_on a.chain.now a.t a.e _ c.incorrect_length-wrong.ensures _ (sym c.agrees.ensures ∙ c.if-not-agrees.false) c.after_walk.ensures.after_walk; goes_low = c.after_walk.ensures.goes_low }
