-- The call, from the tests that its code makes.
--   run-not .. list_left          question 1
--   limit_low                     what it says of the limit
--   areas_say                     and of the areas
--   wrong-areas .. read-so        the questions in order, and the reading behind them
use Rattle.std.specs.Prelude.{Some, Ok, Err}
use Prim.Native.Nat.{ℕ, ◌*◌, ◌≤◌}
use mathlib.Core.Path.{◌≡◌, ap, sym, subst, ◌∙◌}
use mathlib.Core.Bool.{Bool, true, false, ◌&&◌}
use mathlib.Core.List.{List, []}
use lib.Dec.{eqb, leb}
use lib.ListN.{length}
use borrow.Author.Tests.{leb-true, eqb-true}
use Rattle.base.specs.Choice.{pick, opt}
use Rattle.base.proofs.Choice.{pick_true, pick_false, and_left, and_right}
use Rattle.questions.specs.declared.Question.TheVariants as Question
use Rattle.questions.specs.Areas.{chain_fits, arguments_fit, storage_fits, image_fits, faults_fit, limit_fits, program_fits, restart_arguments_fit, run_areas, restart_areas}
use Rattle.address.specs.declared.Extent.{Extent}
use Rattle.address.specs.declared.Model.{Model}
use Rattle.address.specs.Model.{last_of}
use Rattle.address.specs.Within.{extent_of, sound_extent}
use Rattle.pack.specs.Pack.{pack_of}
use Rattle.image.specs.Image.{well_formed}
use Rattle.faults.specs.Faults.{Fault, faults_at, sound_faults, sound_from}
use Rattle.abstract_machine.specs.Machine.{Result}
use Rattle.channel.specs.declared.Location.TheVariants.{Chain}
use Rattle.drive.specs.Step as Step
use Rattle.drive.specs.Run.{Limit}
use Rattle.command.specs.Answer.{setting_with, lent_of}
use Rattle.trial.specs.declared.Ran.{Ran}
use Rattle.trial.specs.Run.{Runs}
use Rattle.trial.proofs.Calls.{short_chain, kept_out}
use Rattle.recovery.specs.Table.{rows}
use Rattle.demand_three.specs.WholeReading.{whole_reading}
use Rattle.reading_cut.specs.Cut.{Areas, lent_areas}
use Rattle.reading_runs.specs.declared.Over.{Over}
use Rattle.reading_runs.specs.Conclusion.{Conclusion, leaving, concluded}
use Rattle.whole_reading.specs.Reading.{reading_areas, reading_call, Answers}
use Rattle.reading_runs.specs.On.{told_of, no_log, read_on, ReadsOn}

-- ---- question 1

module _ (chain arguments storage image faults extent limit program restart_arguments list : ℕ) where
  abbrev fits : Bool
  fits = reading_areas chain arguments storage image faults extent limit program restart_arguments list

  pub run_not : run_areas chain arguments storage image faults limit ≡ false → false ≡ fits
  unfolding reading_areas
  run_not e = rw e

  module _ (e : run_areas chain arguments storage image faults limit ≡ true) where
    pub limit_low : limit ≤ 4096
    unfolding run_areas limit_fits
    limit_low =
        let few = and_right (chain_fits chain && arguments_fit arguments && storage_fits storage && image_fits image && faults_fit faults) (limit_fits limit) e in
        leb-true limit 4096 (and_right (leb 1 limit) (leb limit 4096) few)

    storage_low : storage ≤ 65536
    unfolding run_areas
    storage_low =
        let five = and_left (chain_fits chain && arguments_fit arguments && storage_fits storage && image_fits image && faults_fit faults) (limit_fits limit) e in
        let four = and_left (chain_fits chain && arguments_fit arguments && storage_fits storage && image_fits image) (faults_fit faults) five in
        let three = and_left (chain_fits chain && arguments_fit arguments && storage_fits storage) (image_fits image) four in
        leb-true storage 65536 (and_right (chain_fits chain && arguments_fit arguments) (storage_fits storage) three)

    pub extent_not : eqb extent 8 ≡ false → false ≡ fits
    unfolding reading_areas
    extent_not f = rw (e, f)

    module _ (f : eqb extent 8 ≡ true) where
      pub restart_not : restart_areas program restart_arguments ≡ false → false ≡ fits
      unfolding reading_areas
      restart_not g = rw (e, f, g)

      pub list_left : restart_areas program restart_arguments ≡ true → leb (limit * 6) list ≡ fits
      unfolding reading_areas
      list_left g = rw (e, f, g)

  pub record Fitting : Type 0 where
    pub chain_short : chain ≤ 2048
    pub storage_short : storage ≤ 65536
    pub extent_full : extent ≡ 8
    pub few : limit ≤ 4096
    pub program_full : program ≡ 64
    pub restart_arguments_full : restart_arguments ≡ 16
    pub room : limit * 6 ≤ list

  pub areas_say : fits ≡ true → Fitting
  unfolding reading_areas restart_areas
  areas_say h =
      let run = run_areas chain arguments storage image faults limit in
      let three = and_left (run && eqb extent 8 && restart_areas program restart_arguments) (leb (limit * 6) list) h in
      let restart = and_right (run && eqb extent 8) (restart_areas program restart_arguments) three in
      let two = and_left (run && eqb extent 8) (restart_areas program restart_arguments) three in
      let one = and_left run (eqb extent 8) two in
      record {
        chain_short = short_chain _ _ _ _ _ _ one;
        storage_short = storage_low one;
        extent_full = eqb-true _ _ (and_right run (eqb extent 8) two);
        few = limit_low one;
        program_full = eqb-true _ _ (and_left (program_fits program) (restart_arguments_fit restart_arguments) restart);
        restart_arguments_full = eqb-true _ _ (and_right (program_fits program) (restart_arguments_fit restart_arguments) restart);
        room = leb-true _ _ (and_right (run && eqb extent 8 && restart_areas program restart_arguments) (leb (limit * 6) list) h);
      }

-- ---- the questions in order

module _ (m : Model) (chain arguments st image faults extent : List ℕ) (n : ℕ) (p a l : List ℕ) where
  -- what the contract says of a conclusion
  abbrev Comes : Conclusion → Type 0
  Comes c = Answers m chain arguments st image faults extent n p a l c

  abbrev areas : Bool
  areas = reading_areas (length chain) (length arguments) (length st) (length image) (length faults) (length extent) n (length p) (length a) (length l)

  pub wrong_areas : areas ≡ false → Comes (leaving (Err Question.Areas) st p a l)
  unfolding reading_call
  wrong_areas h = sym (pick_false _ _ h)

  module _ (h : areas ≡ true) where
    pub ill_image : well_formed (last_of m) image ≡ false → Comes (leaving (Err Question.Image) st p a l)
    unfolding reading_call
    ill_image w = sym (pick_true _ _ h ∙ pick_false _ _ w)

    module _ (w : well_formed (last_of m) image ≡ true) where
      -- the reading, once its faults are known
      abbrev with_faults : List Fault → Conclusion
      with_faults fs =
          pick (sound_extent (extent_of m extent))
          (concluded (whole_reading fs (setting_with (last_of m) (lent_of chain arguments [] []) image) rows (extent_of m extent) n st) p a l) (leaving (Err Question.Extent) st p a l)

      pub ill_faults : sound_from (pack_of image) faults 0 ≡ false → Comes (leaving (Err Question.Faults) st p a l)
      unfolding reading_call sound_from
      ill_faults g =
          kept_out (faults_at faults 0) (sound_faults (pack_of image)) (leaving (Err Question.Faults) st p a l) with_faults g
          ∙ sym (pick_true _ _ h ∙ pick_true _ _ w)

      module _ (fs : List Fault) (e : faults_at faults 0 ≡ Some fs) (q : sound_faults (pack_of image) fs ≡ true) (x : Extent) (i : x ≡ extent_of m extent) where
        after_faults : (c : Conclusion) → c ≡ with_faults fs → Comes c
        unfolding reading_call opt
        after_faults c k = k ∙ sym (pick_true _ _ h ∙ pick_true _ _ w ∙ rw e (pick_true _ _ q))

        pub off_pack : sound_extent x ≡ false → Comes (leaving (Err Question.Extent) st p a l)
        off_pack g = after_faults _ (sym (pick_false _ _ (ap sound_extent (sym i) ∙ g)))

        pub read_so : sound_extent x ≡ true → (first : Ran) (after : List ℕ) → Runs (last_of m) chain arguments [] [] image faults n (Chain 0) st first after
            → (o : Over) (y : Areas) → ReadsOn chain arguments image faults x n first (lent_areas after p a l) o y
            → Comes (leaving (Ok o) y.storage y.program y.restart_arguments y.list)
        unfolding whole_reading extent_of
        read_so g first after runs o y reads =
            after_faults _
            (subst (λ (z : Extent). ReadsOn chain arguments image faults z n first (lent_areas after p a l) o y) i reads fs e
            ∙ ap (λ (r : Result Limit Step.End Step.Cut). concluded (read_on fs (told_of (last_of m) chain arguments image) (extent_of m extent) n no_log r) p a l) (sym (runs fs e))
            ∙ sym (pick_true _ _ (ap sound_extent (sym i) ∙ g)))
