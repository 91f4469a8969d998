-- `pack::find_track` meets its contract. Invariant: in an image that decodes, the track is to be found from here on as from the front.
-- Measure: the bytes left. Assumes nothing.
use mathlib.Core.Path.{refl, ap, sym, ◌∙◌}
use mathlib.Core.List.{[], ◌++◌, append_assoc}
use Rattle.fields.proofs.FieldAt.{bounds}
use Rattle.pack.proofs.Lookup.{track_here, track_on, no_more}
use native.Mathlib.Omega.{arith}
use Rattle.pack.proofs.find_track.Goals as goal

pub loop-f-init : goal.loop-f-init
loop-f-init c = (λ d h. (d, h, refl, [], refl), omega arith)

pub returns-in_err-f : goal.returns-in_err-f
returns-in_err-f c =
    rw c.from_residual.ensures
    (λ d h.
    let i = c.loop-f.invariant.0 d h in
    i.2 ∙ no_more _ _ i.0 i.1 (sym c.field_at.ensures ∙ c.in_err-f.was) _)

pub is_track-requires : goal.is_track-requires
is_track-requires c =
    let b = bounds _ _ (sym c.field_at.ensures ∙ c.in_ok-f.was) in record { start_le_next = b.1; next_in_bounds = b.2 }

pub returns-then-is_track : goal.returns-then-is_track
returns-then-is_track c =
    λ d h.
    let i = c.loop-f.invariant.0 d h in
    let t = track_here _ _ i.0 i.1 (sym c.field_at.ensures ∙ c.in_ok-f.was) _ (sym c.is_track.ensures ∙ c.if-is_track.true) in
    (t.0, t.1, i.2 ∙ t.2, t.3, t.4, i.3, i.4 ∙ ap (λ ts. i.3 ++ ts) t.5)

pub loop-f-smaller : goal.loop-f-smaller
loop-f-smaller c =
    let b = bounds _ _ (sym c.field_at.ensures ∙ c.in_ok-f.was) in
    omega arith

pub loop-f-preserved : goal.loop-f-preserved
loop-f-preserved c =
    let e = sym c.field_at.ensures ∙ c.in_ok-f.was in (
      λ d h.
          let i = c.loop-f.invariant.0 d h in
          let t = track_on _ _ i.0 i.1 e _ (sym c.is_track.ensures ∙ c.if-is_track.false) in
          (t.0, t.1, i.2 ∙ t.2, i.3 ++ t.3, i.4 ∙ ap (λ ts. i.3 ++ ts) t.4 ∙ sym (append_assoc i.3 t.3 _)),
      (bounds _ _ e).2,
    )
