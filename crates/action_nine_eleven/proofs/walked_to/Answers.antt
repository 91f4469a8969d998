-- `action_nine_eleven::walked_to` meets its contract: how the data chain ended, then the CSW. Assumes nothing.
use mathlib.Core.Path.{sym, ◌∙◌}
use Rattle.location.proofs.NextFits.{chain_low}
use Rattle.action_nine_eleven.proofs.Overflows.{walk_checked, walk_disagrees, walk_agrees}
use Rattle.action_nine_eleven.proofs.walked_to.Goals as goal

pub returns-in_default : goal.returns-in_default
returns-in_default c =
    let a = c.args in record { walked_to = walk_checked a.chain.now a.csw a.mask a.a a.kind _ c.in_default.is; goes_low = tt }

pub cut_inside-requires : goal.cut_inside-requires
cut_inside-requires c =
    let cut = rw c.in-Some.is at c.requires.end_usable in
    chain_low _ c.requires.chain_len_bound _ cut.inside

pub returns-then-not-cut_inside : goal.returns-then-not-cut_inside
returns-then-not-cut_inside c =
    let a = c.args in
    let no = sym c.cut_inside.ensures ∙ c.if-not-cut_inside.true in record { walked_to = walk_disagrees a.chain.now a.csw a.mask a.a a.kind _ _ c.in-Some.is no; goes_low = tt }

pub from_interrupted-requires : goal.from_interrupted-requires
from_interrupted-requires c = record { chain_len_bound = c.requires.chain_len_bound; interrupted = rw c.in-Some.is at c.requires.end_usable }

pub returns : goal.returns
returns c =
    let a = c.args in
    let yes = sym c.cut_inside.ensures ∙ c.if-not-cut_inside.false in record { walked_to = walk_agrees a.chain.now a.csw a.mask a.a a.kind _ _ c.in-Some.is _ yes c.from_interrupted.ensures.goes_from; goes_low = c.from_interrupted.ensures.goes_low }
