-- `image::track_end` meets its contract: each answer is a law of the pass at the tests that led there. Assumes nothing.
use native.Mathlib.Omega.{arith}
use mathlib.Core.Path.{sym, ◌∙◌}
use Rattle.pack.proofs.Decode.{home_bounds, record_bounds}
use Rattle.image.proofs.Pass.{track_none, track_descends, track_off, track_empty, track_unzero, track_unfit, track_on}
use Rattle.image.proofs.track_end.Goals as goal

pub returns-in_err-home : goal.returns-in_err-home
returns-in_err-home c = rw c.from_residual.ensures (track_none _ _ _ _ c.requires (sym c.home_at.ensures ∙ c.in_err-home.was))

pub returns-then-not-may_follow : goal.returns-then-not-may_follow
returns-then-not-may_follow c =
    let e = sym c.home_at.ensures ∙ c.in_ok-home.was in
    track_descends _ _ _ _ _ e (sym c.may_follow.ensures ∙ c.if-not-may_follow.true)

pub returns-then-not-on_pack : goal.returns-then-not-on_pack
returns-then-not-on_pack c =
    let e = sym c.home_at.ensures ∙ c.in_ok-home.was in
    let f = sym c.may_follow.ensures ∙ c.if-not-may_follow.false in
    track_off _ _ _ _ _ e f (sym c.on_pack.ensures ∙ c.if-not-on_pack.true)

pub returns-in_err-zero : goal.returns-in_err-zero
returns-in_err-zero c =
    let e = sym c.home_at.ensures ∙ c.in_ok-home.was in
    let f = sym c.may_follow.ensures ∙ c.if-not-may_follow.false in
    let g = sym c.on_pack.ensures ∙ c.if-not-on_pack.false in
    rw c.from_residual-in_err-zero.ensures (track_empty _ _ _ _ _ e f g (sym c.record_at.ensures.value ∙ c.in_err-zero.was))

pub returns-then-zero-ne0 : goal.returns-then-zero-ne0
returns-then-zero-ne0 c =
    let e = sym c.home_at.ensures ∙ c.in_ok-home.was in
    let f = sym c.may_follow.ensures ∙ c.if-not-may_follow.false in
    let g = sym c.on_pack.ensures ∙ c.if-not-on_pack.false in
    let r = sym c.record_at.ensures.value ∙ c.in_ok-zero.was in
    track_unzero _ _ _ _ _ e f g _ r c.if-zero-ne0.true

pub fits-requires : goal.fits-requires
fits-requires c =
    let b = rw c.in_ok-zero.was at c.record_at.ensures.bounded in
    omega arith

pub returns-then-not-fits : goal.returns-then-not-fits
returns-then-not-fits c =
    let e = sym c.home_at.ensures ∙ c.in_ok-home.was in
    let f = sym c.may_follow.ensures ∙ c.if-not-may_follow.false in
    let g = sym c.on_pack.ensures ∙ c.if-not-on_pack.false in
    let r = sym c.record_at.ensures.value ∙ c.in_ok-zero.was in
    track_unfit _ _ _ _ _ e f g _ r c.if-zero-ne0.false (sym c.fits.ensures ∙ c.if-not-fits.true)

pub records_end-requires : goal.records_end-requires
records_end-requires c =
    let b = rw c.in_ok-zero.was at c.record_at.ensures.bounded in
    b.inside

pub returns-in_err-next : goal.returns-in_err-next
returns-in_err-next c =
    let e = sym c.home_at.ensures ∙ c.in_ok-home.was in
    let f = sym c.may_follow.ensures ∙ c.if-not-may_follow.false in
    let g = sym c.on_pack.ensures ∙ c.if-not-on_pack.false in
    let r = sym c.record_at.ensures.value ∙ c.in_ok-zero.was in
    let q = sym c.fits.ensures ∙ c.if-not-fits.false in
    let ends = rw c.in_err-next.was at c.records_end.ensures in
    rw c.from_residual-in_err-next.ensures (track_on _ _ _ _ _ e f g _ r c.if-zero-ne0.false q ∙ ends _)

pub returns : goal.returns
returns c =
    let e = sym c.home_at.ensures ∙ c.in_ok-home.was in
    let f = sym c.may_follow.ensures ∙ c.if-not-may_follow.false in
    let g = sym c.on_pack.ensures ∙ c.if-not-on_pack.false in
    let r = sym c.record_at.ensures.value ∙ c.in_ok-zero.was in
    let q = sym c.fits.ensures ∙ c.if-not-fits.false in
    let ends = rw c.in_ok-next.was at c.records_end.ensures in
    let b = home_bounds _ _ _ e in
    let l = record_bounds _ _ _ r in
    let k = l.behind in
    let o = l.in_order in
    (omega arith, ends.1, track_on _ _ _ _ _ e f g _ r c.if-zero-ne0.false q ∙ ends.2 _)
