-- The first three fields of a report, which stand at fixed places.
--   no_sense, no_csw, no_first, csw_wrong   what is no report
--   plain                                   what the three fields say, before the optional ones
--   csw_is                                  a CSW from its eight bytes
--   long                                    the length that the three fields take
use Rattle.std.specs.Prelude.{None}
use Prim.Native.Nat.{ℕ, ◌+◌, ◌<◌, ◌≤◌}
use native.Mathlib.Nat.{add-zero}
use native.Mathlib.Omega.{arith}
use mathlib.Core.Path.{◌≡◌, refl, sym, ◌∙◌}
use mathlib.Core.Bool.{Bool, true, false, ◌&&◌}
use mathlib.Core.List.{List, [], ◌∷◌}
use lib.Dec.{eqb}
use lib.ListN.{length, get_or}
use borrow.Author.Tests.{ne_eqb}
use Rattle.base.specs.Choice.{pick, opt}
use Rattle.base.specs.Bytes.{be16_at, be24_at, part}
use Rattle.base.proofs.Choice.{found, opt_const}
use Rattle.base.proofs.Bytes.{get_or-part, be16-part}
use Rattle.fields.specs.declared.Field.{Field}
use Rattle.fields.specs.Fields as Spec
use Rattle.fields.specs.Fields.{fields_at}
use Rattle.channel.specs.declared.Csw.{Csw}
use Rattle.recovery.specs.Report.{Report, csw_from, is_field, with_mask, from_fields, report_from}
use Rattle.report.specs.Reported.{sized_at}
use Rattle.report.proofs.Places.{field_of, There, on_found, on_missing, no_report, is_field_lem, first_byte}

and_false : (a : Bool) → (a && false) ≡ false
and_false true = refl
and_false false = refl

-- ---- what fields that begin otherwise come to

not_sense : (f : Spec.Field) (fs : List Spec.Field) → is_field f 0x10 24 ≡ false → from_fields (f ∷ fs) ≡ None
unfolding from_fields pick
not_sense f [] h = refl
not_sense f (b ∷ []) h = refl
not_sense f (b ∷ c ∷ fs) h = rw h

not_csw : (a f : Spec.Field) (fs : List Spec.Field) → is_field f 0x11 8 ≡ false → from_fields (a ∷ f ∷ fs) ≡ None
unfolding from_fields pick
not_csw a f [] h = refl
not_csw a f (c ∷ fs) h = rw (h, and_false (is_field a 0x10 24))

not_first : (a b f : Spec.Field) (fs : List Spec.Field) → is_field f 0x12 2 ≡ false → from_fields (a ∷ b ∷ f ∷ fs) ≡ None
unfolding from_fields pick
not_first a b f fs h = rw (h, and_false (is_field a 0x10 24 && (is_field b 0x11 8 && eqb (get_or b.contents 0 0) 0)))

-- ---- the report

abbrev plain_of : List ℕ → Csw → ℕ → Report
plain_of sense csw first = record { sense = sense; csw = csw; first = first; mask = None; seek = None; tries = 0 }

module _ (s : List ℕ) where
  pub no_sense : sized_at s 0 0x10 24 ≡ None → None ≡ report_from s
  unfolding report_from from_fields
  no_sense e = sym (on_missing s 0 0x10 24 from_fields no_report e (λ g. refl) not_sense ∙ opt_const (fields_at s 0) (λ fs g. refl))

  module _ {x : Field} (w0 : There s 0 0x10 24 x) where
    -- the fields behind the sense bytes
    sensed : report_from s ≡ opt (fields_at s x.next) None (λ fs. from_fields (field_of s x ∷ fs))
    unfolding report_from
    sensed = on_found s 0 0x10 24 from_fields w0

    pub no_csw : sized_at s x.next 0x11 8 ≡ None → None ≡ report_from s
    unfolding from_fields
    no_csw e =
        sym
        (sensed
        ∙ on_missing s x.next 0x11 8 (λ fs. from_fields (field_of s x ∷ fs)) no_report e (λ g. refl) (not_csw (field_of s x))
        ∙ opt_const (fields_at s x.next) (λ fs g. refl))

    module _ {w : Field} (w1 : There s x.next 0x11 8 w) where
      told : report_from s ≡ opt (fields_at s w.next) None (λ fs. from_fields (field_of s x ∷ field_of s w ∷ fs))
      told = sensed ∙ on_found s x.next 0x11 8 (λ fs. from_fields (field_of s x ∷ fs)) w1

      pub no_first : sized_at s w.next 0x12 2 ≡ None → None ≡ report_from s
      unfolding from_fields
      no_first e =
          sym
          (told
          ∙ on_missing s w.next 0x12 2 (λ fs. from_fields (field_of s x ∷ field_of s w ∷ fs)) no_report e (λ g. refl)
          (not_first (field_of s x) (field_of s w))
          ∙ opt_const (fields_at s w.next) (λ fs g. refl))

      module _ {f : Field} (w2 : There s w.next 0x12 2 f) where
        all_three : report_from s ≡ opt (fields_at s f.next) None (λ fs. from_fields (field_of s x ∷ field_of s w ∷ field_of s f ∷ fs))
        all_three = told ∙ on_found s w.next 0x12 2 (λ fs. from_fields (field_of s x ∷ field_of s w ∷ fs)) w2

        pub csw_wrong : (get_or s w.start 0 ≡ 0 → ⊥) → None ≡ report_from s
        unfolding from_fields pick
        csw_wrong h =
            sym
            (all_three
            ∙ opt_const (fields_at s f.next)
            (λ fs g. rw (is_field_lem s w0, is_field_lem s w1, first_byte s w1 (omega arith), ne_eqb _ _ h)))

        pub plain : get_or s w.start 0 ≡ 0 → (k : Csw) → k ≡ csw_from (part s w.start (w.start + 8)) → (n : ℕ) → n ≡ be16_at s f.start
            → opt (fields_at s f.next) None (with_mask (plain_of (part s 3 27) k n)) ≡ report_from s
        unfolding from_fields pick
        plain h k e n g =
            let sense : part s x.start x.next ≡ part s 3 27 = rw (← start_is, ← next_is) in
            let csw : csw_from (part s w.start w.next) ≡ k = rw w1.next_is (sym e) in
            let first : be16_at (part s f.start f.next) 0 ≡ n = be16-part s f.start f.next 0 (omega (arith, w2.next_is)) ∙ rw add-zero (sym g) in
            sym
            (all_three
            ∙ found (fields_at s f.next) refl
            (λ fs. rw (is_field_lem s w0, is_field_lem s w1, first_byte s w1 (omega arith), h, is_field_lem s w2)
            (λ i. with_mask (plain_of (sense i) (csw i) (first i)) fs)))
          where
            start_is : x.start ≡ 3
            start_is = w0.start_is

            next_is : x.next ≡ 27
            next_is = omega (arith, w0.next_is, w0.start_is)

        -- ---- where the fields lie

        pub long : 43 ≤ length s
        long =
            omega (arith, w0.start_is, w0.next_is, w1.start_is, w1.next_is, w2.start_is, w2.next_is, w2.inside)

  pub csw_is : (at : ℕ) {address count : ℕ} → address ≡ be24_at s (at + 1) → count ≡ be16_at s (at + 6)
      → record { address = address; unit = get_or s (at + 4) 0; channel = get_or s (at + 5) 0; count = count } ≡ csw_from (part s at (at + 8))
  unfolding csw_from
  csw_is at e f =
      let at_of : (i : ℕ) → at + i < at + 8 → get_or (part s at (at + 8)) i 0 ≡ get_or s (at + i) 0 = get_or-part s at (at + 8) in
      let two : at + 1 + 1 ≡ at + 2 = omega arith in
      let three : at + 1 + 1 + 1 ≡ at + 3 = omega arith in
      let seven : at + 6 + 1 ≡ at + 7 = omega arith in
      rw (
        at_of 1 (omega arith),
        at_of 2 (omega arith),
        at_of 3 (omega arith),
        at_of 4 (omega arith),
        at_of 5 (omega arith),
        at_of 6 (omega arith),
        at_of 7 (omega arith),
        e,
        f,
        three,
        two,
        seven,
      )
