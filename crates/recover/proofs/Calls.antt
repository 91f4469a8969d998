-- Recovery as a call, from the tests that the code makes.
--   chain-not .. extent-left      question 1
--   areas_say                     what it says of the areas
--   told_in                       what a report tells, on a pack of the extent's model
--   wrong-areas .. answers        the questions in order
use Rattle.std.specs.Prelude.{Some, None, Result, Ok, Err}
use Prim.Native.Nat.{ℕ, ◌≤◌}
use mathlib.Core.Path.{◌≡◌, ap, sym, subst, ◌∙◌}
use mathlib.Core.Bool.{true, false, ◌&&◌}
use mathlib.Core.List.{List}
use lib.Dec.{eqb, leb}
use lib.ListN.{length}
use borrow.Author.Tests.{eqb-true, leb-true}
use Rattle.base.specs.Choice.{pick, opt}
use Rattle.base.proofs.Choice.{pick_true, pick_false, and_left, and_right}
use Rattle.questions.specs.declared.Question.{Question}
use Rattle.questions.specs.Areas.{chain_fits, storage_fits, program_fits, restart_arguments_fit, restart_areas}
use Rattle.address.specs.declared.Extent.{Extent}
use Rattle.address.specs.declared.Model.{Model}
use Rattle.address.specs.Model.{last_of}
use Rattle.address.specs.Within.{extent_of, sound_extent}
use Rattle.recovery.specs.Table.{rows}
use Rattle.recovery.specs.Recovery as Recovery
use Rattle.recovery.specs.Report.{Report, report_from}
use Rattle.report.specs.declared.Report as Code
use Rattle.report.specs.Reported.{report_of, reported_of, Bounded}
use Rattle.report.specs.declared.Told.{Told}
use Rattle.report.specs.Told.{Tells}
use Rattle.recovered.specs.declared.Recovered.TheVariants.{Refused}
use Rattle.recovered.specs.Applied.{Applied, with, applied, given_of}
use Rattle.recover.specs.Recover.{refusal, recover_areas, recover_call, Recovers}

-- ---- question 1

module _ (chain storage program restart_arguments extent : ℕ) where
  pub chain_not : chain_fits chain ≡ false → false ≡ recover_areas chain storage program restart_arguments extent
  unfolding recover_areas
  chain_not e = rw e

  module _ (e : chain_fits chain ≡ true) where
    pub storage_not : storage_fits storage ≡ false → false ≡ recover_areas chain storage program restart_arguments extent
    unfolding recover_areas
    storage_not f = rw (e, f)

    module _ (f : storage_fits storage ≡ true) where
      pub restart_not : restart_areas program restart_arguments ≡ false → false ≡ recover_areas chain storage program restart_arguments extent
      unfolding recover_areas
      restart_not g = rw (e, f, g)

      pub extent_left : restart_areas program restart_arguments ≡ true → eqb extent 8 ≡ recover_areas chain storage program restart_arguments extent
      unfolding recover_areas
      extent_left g = rw (e, f, g)

  pub record Fitting : Type 0 where
    pub chain_short : chain ≤ 2048
    pub storage_short : storage ≤ 65536
    pub program_full : program ≡ 64
    pub restart_arguments_full : restart_arguments ≡ 16
    pub extent_full : extent ≡ 8

  pub areas_say : recover_areas chain storage program restart_arguments extent ≡ true → Fitting
  unfolding recover_areas restart_areas chain_fits
  areas_say h =
      let three = and_left (chain_fits chain && storage_fits storage && restart_areas program restart_arguments) (eqb extent 8) h in
      let restart = and_right (chain_fits chain && storage_fits storage) (restart_areas program restart_arguments) three in
      let two = and_left (chain_fits chain && storage_fits storage) (restart_areas program restart_arguments) three in
      let first = and_left (chain_fits chain) (storage_fits storage) two in
      record {
        chain_short = leb-true _ _ (and_right (leb 8 chain) (leb chain 2048) (and_left (leb 8 chain && leb chain 2048) _ first));
        storage_short = leb-true _ _ (and_right (chain_fits chain) (leb storage 65536) two);
        program_full = eqb-true _ _ (and_left (program_fits program) (restart_arguments_fit restart_arguments) restart);
        restart_arguments_full = eqb-true _ _ (and_right (program_fits program) (restart_arguments_fit restart_arguments) restart);
        extent_full = eqb-true _ _ (and_right (chain_fits chain && storage_fits storage && restart_areas program restart_arguments) (eqb extent 8) h);
      }

-- ---- the extent's model

pub told_in : (m : Model) (extent : List ℕ) (x : Extent) (r : Report) (t : Told) → x ≡ extent_of m extent → Tells (last_of m) r t → Tells (last_of x.model) r t
unfolding extent_of
told_in m extent x r t i u = subst (λ (y : Extent). Tells (last_of y.model) r t) (sym i) u

-- ---- the questions in order

module _ (m : Model) (chain report extent st p a : List ℕ) where
  pub wrong_areas : recover_areas (length chain) (length st) (length p) (length a) (length extent) ≡ false
      → with (Refused Question.Areas) st p a ≡ recover_call m chain report extent st p a
  unfolding recover_call refusal
  wrong_areas h = sym (pick_false _ _ h)

  module _ (h : recover_areas (length chain) (length st) (length p) (length a) (length extent) ≡ true) where
    pub ill_formed : (r : Result Code.Report Question) (q : Question) → reported_of report r ≡ report_from report → Bounded report r → r ≡ Err q
        → with (Refused q) st p a ≡ recover_call m chain report extent st p a
    unfolding recover_call refusal opt
    ill_formed r q e b f =
        let ill : None ≡ report_from report = rw f at e in
        let four : q ≡ Question.Report = rw f at b in
        rw four (sym (pick_true _ _ h ∙ rw (← ill)))

    module _ (r : Result Code.Report Question) (w : Code.Report) (e : reported_of report r ≡ report_from report) (f : r ≡ Ok w) where
      reported : Some (report_of report w) ≡ report_from report
      reported = rw f at e

      after_report : (out : Applied)
          → out ≡ pick (sound_extent (extent_of m extent)) (applied (Recovery.recover (given_of rows chain (extent_of m extent)) (report_of report w) st) st p a) (refusal Question.Extent st p a)
          → out ≡ recover_call m chain report extent st p a
      unfolding recover_call opt
      after_report out q = q ∙ sym (pick_true _ _ h ∙ rw (← reported))

      module _ (x : Extent) (i : x ≡ extent_of m extent) where
        pub off_pack : sound_extent x ≡ false → with (Refused Question.Extent) st p a ≡ recover_call m chain report extent st p a
        unfolding refusal
        off_pack g = after_report _ (sym (pick_false _ _ (ap sound_extent (sym i) ∙ g)))

        pub answers : (t : Told) (out : Applied) → sound_extent x ≡ true → Tells (last_of x.model) (report_of report w) t → Recovers x chain t st p a out
            → out ≡ recover_call m chain report extent st p a
        answers t out g u k =
            after_report out
            (k (report_of report w) u
            ∙ ap (λ q. applied (Recovery.recover (given_of rows chain q) (report_of report w) st) st p a) i
            ∙ sym (pick_true _ _ (ap sound_extent (sym i) ∙ g)))
