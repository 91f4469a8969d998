-- `Drive::take_passed` meets its contract: the record stands where the drive passed it. Assumes nothing.
use native.Mathlib.Omega.{arith}
use mathlib.Core.Path.{refl, sym, ◌∙◌}
use Rattle.position.proofs.Take.{belongs, just_spot, take_just, just_there}
use Rattle.position.proofs.Drive.take_passed.Goals as goal

pub returns-in_err-parts : goal.returns-in_err-parts
returns-in_err-parts c =
    let o = c.requires.standing.on c.requires.found_value in
    rw c.from_residual.ensures (record { takes_for = just_there _ _ o.0 o.1 c.requires.passed_value (sym c.record_at.ensures.value ∙ c.in_err-parts.was); taken_stands = just_there _ _ o.0 o.1 c.requires.passed_value (sym c.record_at.ensures.value ∙ c.in_err-parts.was) })

pub overflow_sub-x : goal.overflow_sub-x
overflow_sub-x c =
    let o = c.requires.standing.on c.requires.found_value in
    omega (arith, (o.1.just c.requires.passed_value).0)

pub stepped-requires : goal.stepped-requires
stepped-requires c =
    let o = c.requires.standing.on c.requires.found_value in
    let e = c.in_ok-parts.was in record { standing = c.requires.standing; spots = (o.0, o.1, just_spot _ _ o.0 o.1 c.requires.passed_value _ (sym c.record_at.ensures.value ∙ e) (rw e at c.record_at.ensures.bounded)); passes_bound = omega arith }

pub returns : goal.returns
returns c =
    let o = c.requires.standing.on c.requires.found_value in
    let e = c.in_ok-parts.was in
    let w = rw e at c.record_at.ensures.bounded in
    let found = sym c.record_at.ensures.value ∙ e in
    let x = just_spot _ _ o.0 o.1 c.requires.passed_value _ found w in record { takes_for = take_just _ _ o.0 o.1 c.requires.passed_value _ _ c.stepped.result refl x c.stepped.ensures.value; taken_stands = (c.stepped.ensures.stands, w, (_, found), belongs _ _ o.0 o.1 _ x) }
