-- `heads::reach_search` meets its contract: a count area where the drive stands, or a step. Assumes nothing.
use mathlib.Core.Path.{sym, ◌∙◌}
use borrow.Author.Tests.{not-true, not-false}
use Rattle.position.proofs.Places.{spotted, ended}
use Rattle.heads.proofs.Next.{ends_at}
use Rattle.heads.proofs.Reach.{search_off, search_here, search_on}
use Rattle.heads.proofs.reach_search.Goals as goal

pub returns-then-not-d : goal.returns-then-not-d
returns-then-not-d c = record { value = search_off _ _ (c.requires.off (not-true _ c.if-not-d.true)); reached_stands = tt }

pub next_head-requires : goal.next_head-requires
next_head-requires c =
    let o = c.requires.on (not-false _ c.if-not-d.false) in record { standing = c.requires; track_ends = (o.0, o.1, ends_at _ o.0 c.args.d.next _ o.1.ahead (sym c.record_at.ensures.value ∙ c.in-None.is)) }

pub returns-in-Some : goal.returns-in-Some
returns-in-Some c =
    let o = c.requires.on (not-false _ c.if-not-d.false) in
    let e = c.in-Some.is in
    let x = spotted _ o.0 _ _ o.1.ahead _ o.1.near (sym c.record_at.ensures.value ∙ e) (rw e at c.record_at.ensures.bounded) in record { value = search_here _ _ o.0 o.1.there x.inside; reached_stands = c.requires }

pub returns-in-None : goal.returns-in-None
returns-in-None c =
    let o = c.requires.on (not-false _ c.if-not-d.false) in
    let i = ended _ o.0 _ _ o.1.ahead (sym c.record_at.ensures.value ∙ c.in-None.is) in record { value = search_on _ _ o.0 o.1.there i _ c.next_head.ensures.value; reached_stands = c.next_head.ensures.reached_stands }
