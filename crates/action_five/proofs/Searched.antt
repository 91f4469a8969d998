-- What action 5 decides where a read's data chain ended.
--   correction_is                  the pattern, where its bytes stayed, is the correction
--   search_restarts                a restart
--   next-broken .. next-chain      by the CCW that comes next
--   fetches .. goes_on             by the mask, then by whether the chain ends there
--   disagrees, agrees_on           by whether the CSW agrees
use Rattle.std.specs.Prelude.{Option, Ok, Err}
use Prim.Native.Nat.{ℕ}
use native.Mathlib.Omega.{arith}
use mathlib.Core.Path.{◌≡◌, refl, ap, ap₂, sym, ◌∙◌}
use mathlib.Core.Bool.{Bool, true, false, ◌||◌, not}
use mathlib.Core.List.{List}
use lib.ListN.{get_or}
use Rattle.base.specs.Choice.{pick}
use Rattle.base.specs.Bits.{bit_on}
use Rattle.base.proofs.Choice.{pick_true, pick_false}
use Rattle.base.proofs.Bytes.{part_three}
use Rattle.questions.specs.declared.Question.TheVariants as Question
use Rattle.address.specs.declared.Address.{Address}
use Rattle.channel.specs.declared.Ccw.{Ccw}
use Rattle.channel.specs.declared.Csw.{Csw}
use Rattle.channel.specs.declared.Location.{Location}
use Rattle.channel.specs.declared.Location.TheVariants.{Chain, Restart}
use Rattle.channel.specs.Ccw.{chains_command, next, resolve}
use Rattle.channel.specs.Walk.{incorrect_length}
use Rattle.drive.specs.Step.{spread}
use Rattle.restart.specs.declared.ReadCount.{ReadCount}
use Rattle.restart.specs.Restart.{count_for, search_program, search_arguments}
use Rattle.recovery.specs.Recovery as Recovery
use Rattle.recovery.specs.Recovery.{only_chain, on_next, seek_allowed, fetch_mode, less_unit_check}
use Rattle.recovery.specs.Correct.{corrected}
use Rattle.report.specs.declared.Sense.{Sense}
use Rattle.report.specs.declared.Told.{Told}
use Rattle.report.specs.Told.{SenseTells}
use Rattle.correction.specs.declared.ThreeStayed.{ThreeStayed}
use Rattle.correction.specs.declared.Correction.{Correction}
use Rattle.correction.specs.declared.End.{End}
use Rattle.correction.specs.Retraced.{mended}
use Rattle.correction.proofs.Final.{mended_is}
use Rattle.recovered.specs.declared.Kind.{Kind}
use Rattle.recovered.specs.declared.Kind.TheVariants.{Five, FiveA}
use Rattle.recovered.specs.declared.Recovered.TheVariants as Recovered
use Rattle.recovered.specs.Applied.{with, applied, given_of}
use Rattle.decision.specs.declared.Decision.{Decision}
use Rattle.decision.specs.declared.Decision.TheVariants.{Answers, Corrects, Restarts}
use Rattle.decision.specs.declared.RestartPlan.{RestartPlan}
use Rattle.decision.specs.Decision.{orientation_of, program_by, arguments_by, done, bounded}
use Rattle.recovered.specs.Allowed.{allowed}
use Rattle.decision.proofs.Bounded.{by_seek, refusal_is, applied_pick}
use Rattle.action_five.specs.Five.{correction_of, search_kind, Known, SearchRestarts, GoesOn, AfterWalk, WalkedTo}

pub correction_is : (s st : List ℕ) (t : Sense) (stayed : ThreeStayed) (ps : List (Option ℕ)) → SenseTells s t → Known s stayed ps
    → mended (correction_of t stayed) st ≡ Recovery.correction s ps st
unfolding Recovery.correction
correction_is s st t stayed ps h k =
    ap (λ q. mended q st) (λ i. record { stayed = k.1 i; pattern0 = sym h.pattern0 i; pattern1 = sym h.pattern1 i; pattern2 = sym h.pattern2 i })
    ∙ mended_is ps (Recovery.restart_displacement s) (Recovery.pattern_from s) (get_or s 20 0) (get_or s 21 0) (get_or s 22 0) st k.0
    ∙ ap (λ q. corrected ps (spread (Recovery.restart_displacement s) (Recovery.pattern_from s) q) st) (sym (part_three s 20 (omega (arith, h.full))))

-- ---- a restart

-- by bit 3 of the command that it goes on with
by_bit : (b : Bool) (n : ReadCount) (track : Address) (m : Option ℕ) (to sector number : ℕ) (s st p a : List ℕ)
    → with (Recovered.Restart (pick b Five FiveA)) s (program_by (orientation_of (pick b Five FiveA) n) m to) (arguments_by (orientation_of (pick b Five FiveA) n) track m sector number)
    ≡ applied (Recovery.restarts (pick b Recovery.five Recovery.five_a) (search_program m n to) (search_arguments track m sector number) s) st p a
unfolding pick program_by arguments_by applied
by_bit true n track m to sector number s st p a = refl
by_bit false n track m to sector number s st p a = refl

pub search_restarts : (t : Told) (stayed : ThreeStayed) (to : ℕ) (d : Ccw) (k : Kind) (n : ReadCount) (c : Correction) → k ≡ search_kind d → n ≡ count_for d.command → c ≡ correction_of t.sense stayed
    → SearchRestarts t stayed to d
    (Restarts (record { kind = k; counts = n; track = t.sense.track; mask = t.mask; sector = t.sense.sector; number = t.sense.number; to = to }) c)
unfolding seek_allowed Recovery.search_restart search_kind applied
search_restarts t stayed to d k n c f g e = λ chain rows x r st p a ps h q.
    let s = r.sense in
    let b = bit_on 3 d.command in
    let plan : RestartPlan = record { kind = search_kind d; counts = count_for d.command; track = Recovery.cut_track s; mask = r.mask; sector = get_or s 13 0; number = get_or s 12 0; to = to } in
    ap₂ (λ (u : RestartPlan) (v : Correction). done (bounded x (Restarts u v)) st p a)
    (λ i. record { kind = f i; counts = g i; track = sym h.sense.track i; mask = sym h.mask i; sector = sym h.sense.sector i; number = sym h.sense.number i; to = to }) e
    ∙ by_seek x plan (correction_of t.sense stayed) st p a
    ∙ ap (λ v. pick (allowed x (Recovery.cut_track s)) v (with Recovered.ActionTwo st p a))
    (ap (λ v. with (Recovered.Restart (search_kind d)) v (program_by (orientation_of (search_kind d) (count_for d.command)) r.mask to) (arguments_by (orientation_of (search_kind d) (count_for d.command)) (Recovery.cut_track s) r.mask (get_or s 13 0) (get_or s 12 0)))
    (correction_is s st t.sense stayed ps h.sense q)
    ∙ by_bit b (count_for d.command) (Recovery.cut_track s) r.mask to (get_or s 13 0) (get_or s 12 0) (Recovery.correction s ps st) st p a)
    ∙ applied_pick (allowed x (Recovery.cut_track s)) _ Recovery.action_two st p a

-- ---- the CCW that comes next

module _ (chain : List ℕ) (t : Told) (stayed : ThreeStayed) (l : Location) where
  pub next_broken : (y : Location) → Err y ≡ resolve (only_chain chain) l (next l) → GoesOn chain t stayed l (Answers (Recovered.Refused Question.Agreement))
  unfolding on_next
  next_broken y e = λ rows x r st p a ps h k. rw (← e) (refusal_is Question.Agreement x st p a)

  pub next_restart : (b : ℕ) (d : Ccw) → Ok (Restart b, d) ≡ resolve (only_chain chain) l (next l)
      → GoesOn chain t stayed l (Answers (Recovered.Refused Question.Agreement))
  unfolding on_next
  next_restart b d e = λ rows x r st p a ps h k. rw (← e) (refusal_is Question.Agreement x st p a)

  pub next_chain : (to : ℕ) (d : Ccw) (o : Decision) → Ok (Chain to, d) ≡ resolve (only_chain chain) l (next l) → SearchRestarts t stayed to d o
      → GoesOn chain t stayed l o
  unfolding on_next
  next_chain to d o e f = λ rows x r st p a ps h k. rw (← e) (f chain rows x r st p a ps h k)

-- ---- where the walk ended

module _ (chain : List ℕ) (t : Told) (e : End) (wrong : Bool) where
  pub fetches : (c : Correction) → fetch_mode t.mask ≡ true → c ≡ correction_of t.sense e.stayed → AfterWalk chain t e wrong (Corrects Recovered.CorrectedOnly c)
  unfolding Recovery.after_walk applied done bounded
  fetches c m f = λ rows x r st p a ps h k.
      ap (λ v. with Recovered.CorrectedOnly v p a) (ap (λ v. mended v st) f ∙ correction_is r.sense st t.sense e.stayed ps h.sense k)
      ∙ sym (ap (λ v. applied v st p a) (pick_true _ _ (ap fetch_mode h.mask ∙ m)))

  module _ (m : fetch_mode t.mask ≡ false) where
    pub ends_there : (c : Correction) (w : Csw) → (wrong || not (chains_command e.ccw)) ≡ true → c ≡ correction_of t.sense e.stayed → w ≡ less_unit_check t.csw
        → AfterWalk chain t e wrong (Corrects (Recovered.Finished w) c)
    unfolding Recovery.after_walk applied done bounded
    ends_there c w n f g = λ rows x r st p a ps h k.
        ap₂ (λ u v. with (Recovered.Finished u) v p a) (g ∙ ap less_unit_check (sym h.csw))
        (ap (λ v. mended v st) f ∙ correction_is r.sense st t.sense e.stayed ps h.sense k)
        ∙ sym (ap (λ v. applied v st p a) (pick_false _ _ (ap fetch_mode h.mask ∙ m) ∙ pick_true _ _ n))

    pub goes_on : (o : Decision) → (wrong || not (chains_command e.ccw)) ≡ false → GoesOn chain t e.stayed e.at o → AfterWalk chain t e wrong o
    unfolding Recovery.after_walk
    goes_on o n f = λ rows x r st p a ps h k.
        f rows x r st p a ps h k ∙ sym (ap (λ v. applied v st p a) (pick_false _ _ (ap fetch_mode h.mask ∙ m) ∙ pick_false _ _ n))

module _ (chain : List ℕ) (t : Told) (e : End) (wrong : Bool) (w : wrong ≡ incorrect_length e.ccw e.left e.over) where
  pub disagrees : Recovery.agrees t.csw e.at e.left wrong ≡ false → WalkedTo chain t e (Answers (Recovered.Refused Question.Agreement))
  unfolding Recovery.walked_to
  disagrees n = λ rows x r st p a ps h k.
      refusal_is Question.Agreement x st p a
      ∙ sym (ap (λ v. applied v st p a) (pick_false _ _ (ap₂ (λ u b. Recovery.agrees u e.at e.left b) h.csw (sym w) ∙ n)))

  pub agrees_on : (o : Decision) → Recovery.agrees t.csw e.at e.left wrong ≡ true → AfterWalk chain t e wrong o → WalkedTo chain t e o
  unfolding Recovery.walked_to
  agrees_on o n f = λ rows x r st p a ps h k.
      f rows x r st p a ps h k
      ∙ ap (λ b. applied (Recovery.after_walk (given_of rows chain x) r st ps e.at e.ccw b) st p a) w
      ∙ sym (ap (λ v. applied v st p a) (pick_true _ _ (ap₂ (λ u b. Recovery.agrees u e.at e.left b) h.csw (sym w) ∙ n)))
