-- The calls, from the tests that their code makes.
--   short_chain, short_program    what question 1 says of the areas that CCWs stand in
--   low_chain, low_restart        where runs start
--   listed, kept_out              what question 3 says of a fault list; a choice that no test lets through
--   image_refused, faults_refused, ran_so      questions 2 and 3, and the run behind them
--   run_refused, run_fits         question 1 of a run
--   restart_refused, program_refused, restart_fits      question 1 of a restarted run
use Rattle.std.specs.Prelude.{Option, Some, None, Ok, Err}
use Prim.Native.Nat.{ℕ, ◌≤◌}
use native.Mathlib.Omega.{arith}
use mathlib.Core.Path.{◌≡◌, refl, sym, ◌∙◌}
use mathlib.Core.Bool.{Bool, true, false, ◌&&◌}
use mathlib.Core.List.{List, []}
use lib.Dec.{eqb, leb}
use lib.ListN.{length}
use borrow.Author.Tests.{leb-true, eqb-true}
use Rattle.base.specs.Choice.{pick, opt}
use Rattle.base.proofs.Choice.{pick_true, pick_false, and_left, and_right, and_true}
use Rattle.questions.specs.declared.Question.TheVariants as Question
use Rattle.questions.specs.Areas.{chain_fits, arguments_fit, storage_fits, image_fits, faults_fit, limit_fits, run_areas, restart_areas, restart_limit}
use Rattle.address.specs.declared.Model.{Model}
use Rattle.address.specs.Model.{last_of}
use Rattle.pack.specs.Pack.{Track, pack_of}
use Rattle.image.specs.Image.{well_formed}
use Rattle.faults.specs.Faults.{Fault, faults_at, sound_faults, sound_from}
use Rattle.channel.specs.declared.Location.{Location}
use Rattle.channel.specs.declared.Location.TheVariants.{Chain, Restart}
use Rattle.channel.specs.Ccw.{Lent, address_of}
use Rattle.drive.specs.Run.{run_from}
use Rattle.location.specs.Low.{Low}
use Rattle.command.specs.Answer.{setting_with, lent_of}
use Rattle.trial.specs.declared.Ran.{Ran}
use Rattle.trial.specs.Run.{ran_of}
use Rattle.trial.specs.Trial.{storage_of, Conclusion, refusal, concluded, begin, run_call, restarted_areas, restart_call, conclusion_of}

-- ---- question 1

module _ (chain arguments storage image faults limit : ℕ) (h : run_areas chain arguments storage image faults limit ≡ true) where
  pub short_chain : chain ≤ 2048
  unfolding run_areas chain_fits
  short_chain =
      let a = and_left (chain_fits chain && arguments_fit arguments && storage_fits storage && image_fits image && faults_fit faults) (limit_fits limit) h in
      let b = and_left (chain_fits chain && arguments_fit arguments && storage_fits storage && image_fits image) (faults_fit faults) a in
      let d = and_left (chain_fits chain && arguments_fit arguments && storage_fits storage) (image_fits image) b in
      let e = and_left (chain_fits chain && arguments_fit arguments) (storage_fits storage) d in
      let f = and_left (leb 8 chain && leb chain 2048) _ (and_left (chain_fits chain) (arguments_fit arguments) e) in
      leb-true chain 2048 (and_right (leb 8 chain) (leb chain 2048) f)

pub short_program : (program arguments : ℕ) → restart_areas program arguments ≡ true → program ≤ 64
unfolding restart_areas
short_program program arguments h =
    let e : program ≡ 64 = eqb-true program 64 (and_left (eqb program 64) (eqb arguments 16) h) in
    omega arith

pub low_chain : Low (Chain 0)
unfolding address_of
low_chain = omega arith

pub low_restart : Low (Restart 0)
unfolding address_of
low_restart = omega arith

-- ---- questions 2 and 3

pub listed : (ts : List Track) (s : List ℕ) → sound_from ts s 0 ≡ true → (fs : List Fault) × (faults_at s 0 ≡ Some fs) × (sound_faults ts fs ≡ true)
unfolding sound_from opt
listed ts s h = by (faults_at s 0) h
  where
    by : (o : Option (List Fault)) → opt o false (sound_faults ts) ≡ true → (fs : List Fault) × (o ≡ Some fs) × (sound_faults ts fs ≡ true)
    by None q = let z : ◌≡◌ {A = ℕ} 0 1 = cc in absurd (omega arith)
    by (Some fs) q = (fs, refl, q)

-- a choice that no test of it lets through
pub kept_out : {A B : Type 0} (o : Option A) (f : A → Bool) (y : B) (g : A → B) → opt o false f ≡ false → y ≡ opt o y (λ a. pick (f a) (g a) y)
unfolding opt
kept_out None f y g h = refl
kept_out (Some a) f y g h = sym (pick_false (g a) y h)

concluded_so : (r : Ran) (after : List ℕ) → conclusion_of (Ok r) after ≡ concluded (ran_of r after)
unfolding concluded storage_of
concluded_so (Ran.Ended e) after = refl
concluded_so (Ran.Cut k) after = refl
concluded_so (Ran.Limited s) after = refl

module _ (last : ℕ) (p : Lent) (image faults : List ℕ) (n : ℕ) (l : Location) (st : List ℕ) where
  pub image_refused : well_formed last image ≡ false → conclusion_of (Err Question.Image) st ≡ begin last p image faults n l st
  unfolding begin refusal pick
  image_refused h = rw h

  module _ (w : well_formed last image ≡ true) where
    pub faults_refused : sound_from (pack_of image) faults 0 ≡ false → conclusion_of (Err Question.Faults) st ≡ begin last p image faults n l st
    unfolding begin refusal sound_from
    faults_refused h =
        kept_out (faults_at faults 0) (sound_faults (pack_of image)) (refusal st Question.Faults) (λ fs. concluded (run_from fs (setting_with last p image) n l st)) h
        ∙ sym (pick_true _ _ w)

    pub ran_so : (fs : List Fault) → faults_at faults 0 ≡ Some fs → sound_faults (pack_of image) fs ≡ true → (r : Ran) (after : List ℕ)
        → run_from fs (setting_with last p image) n l st ≡ ran_of r after → conclusion_of (Ok r) after ≡ begin last p image faults n l st
    unfolding begin pick opt
    ran_so fs e q r after ran = rw (w, e, q, ran) (concluded_so r after)

-- ---- the calls

module _ (m : Model) (chain arguments st image faults : List ℕ) (n : ℕ) where
  pub run_refused : run_areas (length chain) (length arguments) (length st) (length image) (length faults) n ≡ false
      → conclusion_of (Err Question.Areas) st ≡ run_call m chain arguments st image faults n
  unfolding run_call refusal pick
  run_refused h = rw h

  pub run_fits : run_areas (length chain) (length arguments) (length st) (length image) (length faults) n ≡ true
      → (k : Conclusion) → k ≡ begin (last_of m) (lent_of chain arguments [] []) image faults n (Chain 0) st → k ≡ run_call m chain arguments st image faults n
  unfolding run_call pick
  run_fits h k e = rw h e

-- any limit that fits says nothing of the areas
areas_only : (chain arguments program restart_arguments storage image faults : ℕ) (v w : Bool) → run_areas chain arguments storage image faults 1 ≡ v
    → restart_areas program restart_arguments ≡ w → restarted_areas chain arguments program restart_arguments storage image faults ≡ (v && w)
unfolding restarted_areas run_areas limit_fits
areas_only chain arguments program restart_arguments storage image faults v w e f =
    rw (sym (and_true (chain_fits chain && arguments_fit arguments && storage_fits storage && image_fits image && faults_fit faults)) ∙ e, f)

module _ (m : Model) (chain arguments program restart_arguments st image faults : List ℕ) where
  areas : (v w : Bool) → run_areas (length chain) (length arguments) (length st) (length image) (length faults) 1 ≡ v → restart_areas (length program) (length restart_arguments) ≡ w
      → restarted_areas (length chain) (length arguments) (length program) (length restart_arguments) (length st) (length image) (length faults) ≡ (v && w)
  areas v w e f = areas_only (length chain) (length arguments) (length program) (length restart_arguments) (length st) (length image) (length faults) v w e f

  pub restart_refused : run_areas (length chain) (length arguments) (length st) (length image) (length faults) 1 ≡ false
      → conclusion_of (Err Question.Areas) st ≡ restart_call m chain arguments program restart_arguments st image faults
  unfolding restart_call refusal pick
  restart_refused h = rw (areas false _ h refl)

  module _ (a : run_areas (length chain) (length arguments) (length st) (length image) (length faults) 1 ≡ true) where
    pub program_refused : restart_areas (length program) (length restart_arguments) ≡ false
        → conclusion_of (Err Question.Areas) st ≡ restart_call m chain arguments program restart_arguments st image faults
    unfolding restart_call refusal pick
    program_refused h = rw (areas true false a h)

    pub restart_fits : restart_areas (length program) (length restart_arguments) ≡ true
        → (k : Conclusion) → k ≡ begin (last_of m) (lent_of chain arguments program restart_arguments) image faults restart_limit (Restart 0) st
        → k ≡ restart_call m chain arguments program restart_arguments st image faults
    unfolding restart_call pick
    restart_fits h k e = rw (areas true true a h) e
