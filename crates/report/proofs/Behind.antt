-- The optional fields of a report, from the last to the first.
--   tries_end, tries_missing, tries_more, tries_here   the tries made, with nothing behind them
--   seek_missing, seek_here                            the user's seek argument
--   mask_missing, mask_wrong, mask_here                the file mask
--   bounds_tried, bounds_sought                        the bounds of a report with one of them more
use Rattle.std.specs.Prelude.{Option, Some, None}
use Prim.Native.Nat.{ℕ, ◌+◌, ◌<◌, ◌≤◌}
use native.Mathlib.Omega.{arith}
use mathlib.Core.Path.{◌≡◌, refl, sym, ◌∙◌}
use mathlib.Core.Bool.{true, false}
use mathlib.Core.List.{List, [], ◌∷◌}
use lib.ListN.{length, get_or}
use Rattle.base.specs.Choice.{pick, opt}
use Rattle.base.specs.Bytes.{part}
use Rattle.base.proofs.Choice.{found, opt_const, opt_opt}
use Rattle.fields.specs.declared.Field.{Field}
use Rattle.fields.specs.Fields as Spec
use Rattle.fields.specs.Fields.{fields_at}
use Rattle.fields.specs.TaggedAt.{tagged_at}
use Rattle.fields.proofs.Fields.{fields_end, fields_torn, fields_on}
use Rattle.drive.specs.Step.{settable}
use Rattle.recovery.specs.Report.{Report, is_field, with_tries, with_seek, with_mask}
use Rattle.report.specs.declared.Report as Code
use Rattle.report.specs.Reported.{sized_at, Bounds}
use Rattle.report.proofs.Places.{field_of, There, on_found, on_missing, no_report, is_field_lem, first_byte}

abbrev tried_of : Report → ℕ → Report
tried_of r x = record { sense = r.sense; csw = r.csw; first = r.first; mask = r.mask; seek = r.seek; tries = x }

abbrev sought_of : Report → List ℕ → Report
sought_of r x = record { sense = r.sense; csw = r.csw; first = r.first; mask = r.mask; seek = Some x; tries = r.tries }

abbrev masked_of : Report → ℕ → Report
masked_of r m = record { sense = r.sense; csw = r.csw; first = r.first; mask = Some m; seek = r.seek; tries = r.tries }

-- ---- bounds

module _ {s : List ℕ} {r : Code.Report} (b : Bounds s r) where
  pub bounds_tried : (x : ℕ) → Bounds s (record { csw = r.csw; first = r.first; mask = r.mask; seek = r.seek; tries = x })
  bounds_tried x = record { long = b.long; address = b.address; count = b.count; first = b.first; seek = b.seek }

  pub bounds_sought : {at : ℕ} {f : Field} → There s at 0x14 6 f → Bounds s (record { csw = r.csw; first = r.first; mask = r.mask; seek = Some f.start; tries = r.tries })
  bounds_sought w = record { long = b.long; address = b.address; count = b.count; first = b.first; seek = omega (arith, w.next_is, w.inside) }

module _ (s : List ℕ) (at : ℕ) (r : Report) where
  -- ---- tries

  pub tries_end : length s ≤ at → Some r ≡ opt (fields_at s at) None (with_tries r)
  unfolding with_tries opt
  tries_end h = rw (fields_end s at h)

  not_tries : (f : Spec.Field) (fs : List Spec.Field) → is_field f 0x15 1 ≡ false → with_tries r (f ∷ fs) ≡ None
  unfolding with_tries pick
  not_tries f [] h = rw h
  not_tries f (g ∷ fs) h = refl

  pub tries_missing : at < length s → sized_at s at 0x15 1 ≡ None → None ≡ opt (fields_at s at) None (with_tries r)
  tries_missing h e = sym (on_missing s at 0x15 1 (with_tries r) no_report e (λ g. absurd (omega arith)) not_tries ∙ opt_const (fields_at s at) (λ fs g. refl))

  module _ {f : Field} (w : There s at 0x15 1 f) where
    pub tries_more : f.next < length s → None ≡ opt (fields_at s at) None (with_tries r)
    unfolding with_tries opt
    tries_more h = sym (on_found s at 0x15 1 (with_tries r) w ∙ by (tagged_at s f.next) refl)
      where
        by : (q : Option Field) → tagged_at s f.next ≡ q → opt (fields_at s f.next) None (λ fs. with_tries r (field_of s f ∷ fs)) ≡ None
        by None q = rw (fields_torn s f.next h q)
        by (Some g) q =
            rw (
              fields_on s f.next q,
              opt_opt (fields_at s g.next) (λ fs. Some (field_of s g ∷ fs)) None (λ fs. with_tries r (field_of s f ∷ fs)),
            )
            (opt_const (fields_at s g.next) (λ fs e. refl))

    pub tries_here : length s ≤ f.next → (x : ℕ) → x ≡ get_or s f.start 0 → Some (tried_of r x) ≡ opt (fields_at s at) None (with_tries r)
    unfolding with_tries opt pick
    tries_here h x e =
        sym (on_found s at 0x15 1 (with_tries r) w ∙ rw (fields_end s f.next h, is_field_lem s w, first_byte s w (omega arith), e))

  -- ---- the seek argument

  pub seek_missing : sized_at s at 0x14 6 ≡ None → opt (fields_at s at) None (with_tries r) ≡ opt (fields_at s at) None (with_seek r)
  unfolding with_seek with_tries pick
  seek_missing e = sym (on_missing s at 0x14 6 (with_seek r) (with_tries r) e (λ g. refl) (λ f fs h. rw h))

  pub seek_here : {f : Field} → There s at 0x14 6 f
      → opt (fields_at s f.next) None (with_tries (sought_of r (part s f.start (f.start + 6)))) ≡ opt (fields_at s at) None (with_seek r)
  unfolding with_seek pick
  seek_here {f} w =
      rw (← w.next_is) (sym (on_found s at 0x14 6 (with_seek r) w ∙ found (fields_at s f.next) refl (λ fs. rw (is_field_lem s w))))

  -- ---- the mask

  pub mask_missing : sized_at s at 0x13 1 ≡ None → opt (fields_at s at) None (with_seek r) ≡ opt (fields_at s at) None (with_mask r)
  unfolding with_mask with_seek pick
  mask_missing e = sym (on_missing s at 0x13 1 (with_mask r) (with_seek r) e (λ g. refl) (λ f fs h. rw h))

  module _ {f : Field} (w : There s at 0x13 1 f) where
    pub mask_wrong : settable (get_or s f.start 0) ≡ false → None ≡ opt (fields_at s at) None (with_mask r)
    unfolding with_mask pick
    mask_wrong h =
        sym (on_found s at 0x13 1 (with_mask r) w ∙ opt_const (fields_at s f.next) (λ fs e. rw (is_field_lem s w, first_byte s w (omega arith), h)))

    pub mask_here : settable (get_or s f.start 0) ≡ true
        → opt (fields_at s f.next) None (with_seek (masked_of r (get_or s f.start 0))) ≡ opt (fields_at s at) None (with_mask r)
    unfolding with_mask pick
    mask_here h =
        sym (on_found s at 0x13 1 (with_mask r) w ∙ found (fields_at s f.next) refl (λ fs. rw (is_field_lem s w, first_byte s w (omega arith), h)))
