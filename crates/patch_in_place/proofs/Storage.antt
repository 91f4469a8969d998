-- Which bytes of storage the calls of recovery change: `call_patches_in_place`, and from it `giruve_recover_patches_in_place`.
use Rattle.std.specs.Prelude.{Some}
use Prim.Native.Nat.{ℕ}
use mathlib.Core.Path.{◌≡◌, refl, ap, sym, subst, ◌∙◌}
use mathlib.Core.Bool.{false}
use mathlib.Core.List.{List}
use lib.ListN.{length, get_or}
use Rattle.base.proofs.Choice.{both, either_if, never}
use Rattle.questions.specs.declared.Question.{Question}
use Rattle.address.specs.declared.Model.{Model}
use Rattle.address.specs.Model.{model_of}
use Rattle.address.specs.Within.{extent_of}
use Rattle.recovery.specs.Table.{rows}
use Rattle.recovery.specs.Report.{Report, report_from}
use Rattle.recovery.specs.Recovery as Recovery
use Rattle.recovery_storage.specs.Storage.{storage_behind, of_five, corrects, Patched}
use Rattle.recovery_storage.proofs.Storage.{unpatched, patches_in_place}
use Rattle.recovered.specs.declared.Kind.TheVariants.{Five, FiveA, Eight, Nine, Ten, TenA, Eleven}
use Rattle.recovered.specs.declared.Recovered.{Recovered}
use Rattle.recovered.specs.declared.Recovered.TheVariants.{Refused, ActionOne, ActionTwo, Repeat, CorrectedOnly, Finished, Restart}
use Rattle.recovered.specs.Applied.{Applied, applied, given_of}
use Rattle.recover.specs.Recover.{recover_call, refusal}
use Rattle.recovery_answer.specs.RecoveryAnswer.{recovery_return, recovery_answer_after}
use Rattle.giruve.specs.Model.{recover_call_by}
use Rattle.giruve.specs.Recover.{RecoveryHanded, recovery_handing, recovery_handed}
use Rattle.patch_in_place.specs.Storage.{ReportStayed, NumberStayed, answer_corrects, CallPatchesInPlace, handed_corrects, GiruveRecoverPatchesInPlace}

-- ---- an answer of the definitions, as the code has it

applied_storage : (q : Recovery.Recovery) (st p a : List ℕ) → storage_behind q st ≡ (applied q st p a).storage
unfolding storage_behind applied
applied_storage (Recovery.refused q) st p a = refl
applied_storage Recovery.action_one st p a = refl
applied_storage Recovery.action_two st p a = refl
applied_storage Recovery.repeats st p a = refl
applied_storage (Recovery.corrected_only s) st p a = refl
applied_storage (Recovery.finished w s) st p a = refl
applied_storage (Recovery.restarts k q b s) st p a = refl

applied_corrects : (q : Recovery.Recovery) (st p a : List ℕ) → corrects q ≡ answer_corrects (applied q st p a).answer
unfolding corrects of_five applied answer_corrects
applied_corrects (Recovery.refused q) st p a = refl
applied_corrects Recovery.action_one st p a = refl
applied_corrects Recovery.action_two st p a = refl
applied_corrects Recovery.repeats st p a = refl
applied_corrects (Recovery.corrected_only s) st p a = refl
applied_corrects (Recovery.finished w s) st p a = refl
applied_corrects (Recovery.restarts Recovery.five q b s) st p a = refl
applied_corrects (Recovery.restarts Recovery.five_a q b s) st p a = refl
applied_corrects (Recovery.restarts Recovery.eight q b s) st p a = refl
applied_corrects (Recovery.restarts Recovery.nine q b s) st p a = refl
applied_corrects (Recovery.restarts Recovery.ten q b s) st p a = refl
applied_corrects (Recovery.restarts Recovery.ten_a q b s) st p a = refl
applied_corrects (Recovery.restarts Recovery.eleven q b s) st p a = refl

-- ---- the call

module _ (m : Model) (chain report extent st : List ℕ) where
  abbrev Keeps : Applied → Type 0
  Keeps out = Patched (ReportStayed m chain report extent st) (answer_corrects out.answer) st out.storage

  refusal_keeps : (q : Question) (p a : List ℕ) → Keeps (refusal q st p a)
  unfolding refusal
  refusal_keeps q p a = unpatched (ReportStayed m chain report extent st) (answer_corrects (Refused q)) st st refl

  answer_keeps : (p a : List ℕ) (r : Report) → report_from report ≡ Some r → Keeps (applied (Recovery.recover (given_of rows chain (extent_of m extent)) r st) st p a)
  answer_keeps p a r e =
      let q = Recovery.recover (given_of rows chain (extent_of m extent)) r st in
      let k = patches_in_place (given_of rows chain (extent_of m extent)) r st in
      let s = applied_storage q st p a in
      record {
        as_long = ap length (sym s) ∙ k.as_long;
        kept = λ b h. ap (λ (x : List ℕ). get_or x b 0) (sym s) ∙ k.kept b (λ t. h (record { told = r; is = e; stayed = t }));
        untouched = λ n. sym s ∙ k.untouched (applied_corrects q st p a ∙ n);
      }

  call_keeps : (p a : List ℕ) → Keeps (recover_call m chain report extent st p a)
  unfolding recover_call
  call_keeps p a =
      both Keeps _
      (either_if Keeps _ (λ e. refusal_keeps _ p a) (λ r e. both Keeps _ (answer_keeps p a r e) (refusal_keeps _ p a)))
      (refusal_keeps _ p a)

pub call_patches_in_place : CallPatchesInPlace
call_patches_in_place m chain report extent st p a out e = subst (Keeps m chain report extent st) (sym e) (call_keeps m chain report extent st p a)

-- ---- by the number of a model

module _ (model : ℕ) (chain report extent st : List ℕ) where
  abbrev NumberKeeps : Applied → Type 0
  NumberKeeps out = Patched (NumberStayed model chain report extent st) (answer_corrects out.answer) st out.storage

  of_model : (p a : List ℕ) (m : Model) → model_of model ≡ Some m → NumberKeeps (recover_call m chain report extent st p a)
  of_model p a m e =
      let k = call_keeps m chain report extent st p a in
      record { as_long = k.as_long; kept = λ b h. k.kept b (λ t. h (record { of = m; known = e; stayed = t })); untouched = k.untouched }

  number_keeps : (p a : List ℕ) → NumberKeeps (recover_call_by model chain report extent st p a)
  unfolding recover_call_by refusal
  number_keeps p a =
      either_if NumberKeeps _ (λ e. unpatched (NumberStayed model chain report extent st) _ st st refl) (of_model p a)

-- ---- the call for C

handed_corrects_lem : (b st p a : List ℕ) (r : Recovered) → handed_corrects (recovery_handing (recovery_return r) (recovery_answer_after b r) st p a) ≡ false → answer_corrects r ≡ false
unfolding handed_corrects recovery_answer_after answer_corrects
handed_corrects_lem b st p a (Refused q) e = refl
handed_corrects_lem b st p a ActionOne e = refl
handed_corrects_lem b st p a ActionTwo e = refl
handed_corrects_lem b st p a Repeat e = refl
handed_corrects_lem b st p a CorrectedOnly e = never (sym e)
handed_corrects_lem b st p a (Finished w) e = never (sym e)
handed_corrects_lem b st p a (Restart Five) e = never (sym e)
handed_corrects_lem b st p a (Restart FiveA) e = never (sym e)
handed_corrects_lem b st p a (Restart Eight) e = refl
handed_corrects_lem b st p a (Restart Nine) e = refl
handed_corrects_lem b st p a (Restart Ten) e = refl
handed_corrects_lem b st p a (Restart TenA) e = refl
handed_corrects_lem b st p a (Restart Eleven) e = refl

abbrev HandedKeeps : (model : ℕ) (chain report extent st : List ℕ) → RecoveryHanded → Type 0
HandedKeeps model chain report extent st h = Patched (NumberStayed model chain report extent st) (handed_corrects h) st h.storage

pub giruve_recover_patches_in_place : GiruveRecoverPatchesInPlace
unfolding recovery_handed
giruve_recover_patches_in_place model chain report extent st p a answer h e =
    let call = number_keeps model chain report extent st p a in
    subst (HandedKeeps model chain report extent st) (sym e)
    (both (HandedKeeps model chain report extent st) _
    (record { as_long = call.as_long; kept = call.kept; untouched = λ n. call.untouched (handed_corrects_lem answer _ _ _ _ n) })
    (unpatched (NumberStayed model chain report extent st) _ st st refl))
