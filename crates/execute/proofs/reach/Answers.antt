-- `execute::reach` meets its contract: by the command. Assumes nothing.
use mathlib.Core.Path.{sym, ◌∙◌}
use Rattle.execute.proofs.Commands.{other_single, search_rejected, search_reaches, read_reaches, other_reaches}
use borrow.Enum.Refused.{opened}
use Rattle.execute.proofs.reach.Goals as goal

pub returns-then-not-counted : goal.returns-then-not-counted
returns-then-not-counted c =
    let wrong = sym c.counted.ensures ∙ c.if-not-counted.true in record { reaches_for = search_rejected _ _ c.args.d c.in-SearchIdMultitrack.is wrong; reached_stands = c.requires }

pub returns-in-SearchIdMultitrack : goal.returns-in-SearchIdMultitrack
returns-in-SearchIdMultitrack c =
    let right = sym c.counted.ensures ∙ c.if-not-counted.false in record { reaches_for = search_reaches _ _ c.args.d c.reach_search.result c.in-SearchIdMultitrack.is right c.reach_search.ensures.value; reached_stands = c.reach_search.ensures.reached_stands }

pub returns-in-ReadMultitrack : goal.returns-in-ReadMultitrack
returns-in-ReadMultitrack c = record { reaches_for = read_reaches _ _ c.args.d _ c.reach_read.result c.in-ReadMultitrack.is c.reach_read.ensures.value; reached_stands = c.reach_read.ensures.reached_stands }

pub returns-in_default : goal.returns-in_default
returns-in_default c = record { reaches_for = other_reaches _ _ c.args.d (other_single c.args.k (opened c.in_default.in_default-own.keys3)); reached_stands = c.requires }
