-- `report::user_track` meets its contract: the first two bytes, then the track. Assumes nothing.
use mathlib.Core.Path.{sym, ◌∙◌}
use Rattle.report.proofs.Users.{first_other, not_on_pack, names_track}
use Rattle.report.proofs.user_track.Goals as goal

pub returns-then-be16-ne0 : goal.returns-then-be16-ne0
returns-then-be16-ne0 c = record { user_at = first_other _ _ _ _ c.be16.ensures.value c.if-be16-ne0.true; user_low = tt }

pub returns-then-not-on_pack : goal.returns-then-not-on_pack
returns-then-not-on_pack c =
    let a = c.args in
    let no = sym c.on_pack.ensures ∙ c.if-not-on_pack.true in record { user_at = not_on_pack _ a.report.now a.at _ c.be16.ensures.value c.if-be16-ne0.false _ (rw (c.be16-2.ensures.value, c.be16-3.ensures.value)) no; user_low = tt }

pub returns : goal.returns
returns c =
    let a = c.args in
    let yes = sym c.on_pack.ensures ∙ c.if-not-on_pack.false in record { user_at = names_track _ a.report.now a.at _ c.be16.ensures.value c.if-be16-ne0.false _ (rw (c.be16-2.ensures.value, c.be16-3.ensures.value)) yes; user_low = (c.be16-2.ensures.upper_bound, c.be16-3.ensures.upper_bound) }
