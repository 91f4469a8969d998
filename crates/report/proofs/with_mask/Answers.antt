-- `report::with_mask` meets its contract: each answer is a law of `with_mask`, by what the seek argument answers. Assumes nothing.
use native.Mathlib.Omega.{arith}
use mathlib.Core.Path.{refl, sym, ◌∙◌}
use Rattle.report.proofs.Places.{found_tells}
use Rattle.report.proofs.Behind.{mask_missing, mask_wrong, mask_here}
use Rattle.report.proofs.with_mask.Goals as goal

pub returns-in_default : goal.returns-in_default
returns-in_default c = record { reads = c.with_seek.ensures.reads ∙ mask_missing _ _ _ (sym c.sized_at.ensures ∙ c.in_default.is); bounded = c.with_seek.ensures.bounded }

pub bounds-report-mask : goal.bounds-report-mask
bounds-report-mask c =
    let w = found_tells _ _ 0x13 1 (sym c.sized_at.ensures ∙ c.in-Some.is) in
    omega (arith, w.next_is, w.inside)

pub returns-then-not-settable : goal.returns-then-not-settable
returns-then-not-settable c = record { reads = mask_wrong _ _ _ (found_tells _ _ 0x13 1 (sym c.sized_at.ensures ∙ c.in-Some.is)) (sym c.settable.ensures ∙ c.if-not-settable.true); bounded = refl }

pub returns : goal.returns
returns c = record {
  reads = c.with_seek-2.ensures.reads
      ∙ mask_here _ _ _ (found_tells _ _ 0x13 1 (sym c.sized_at.ensures ∙ c.in-Some.is)) (sym c.settable.ensures ∙ c.if-not-settable.false);
  bounded = c.with_seek-2.ensures.bounded;
}
