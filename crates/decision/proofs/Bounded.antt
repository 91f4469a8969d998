-- A decision in an extent.
--   pack_low, track_low          the numbers of a track of the pack, and of one that a restart may seek
--   plan_low, overflow_low       those of a restart whose seek is allowed
--   restart-in .. no-restart     what the code returns
--   by_seek, overflow_by_seek    a restart, carried out
--   refusal_is                   a refusal, carried out
--   applied_pick                 one of two answers
use Prim.Native.Nat.{ℕ, ◌<◌}
use native.Mathlib.Omega.{arith}
use mathlib.Core.Path.{◌≡◌, refl}
use mathlib.Core.Bool.{Bool, true, false}
use mathlib.Core.List.{List, [], ◌∷◌}
use mathlib.Core.Logic.{inl, inr}
use lib.Dec.{leb}
use types.Run.{OneOf}
use denote.Enum.Declared
use borrow.Author.Tests.{leb-true}
use Rattle.base.specs.Choice.{pick}
use Rattle.base.proofs.Choice.{and_left, and_right}
use Rattle.questions.specs.declared.Question.{Question}
use Rattle.address.specs.declared.Address.{Address}
use Rattle.address.specs.declared.Extent.{Extent}
use Rattle.address.specs.Model.{last_of}
use Rattle.address.specs.Order.{on_pack}
use Rattle.address.specs.Within.{within}
use Rattle.address.proofs.Models.{last_low}
use Rattle.channel.specs.Fetch.{InBytes}
use Rattle.restart.specs.Restart.{overflow_program, restart_arguments_of}
use Rattle.restart_areas.specs.Placed.{TicLow}
use Rattle.correction.specs.declared.Correction.{Correction}
use Rattle.correction.specs.Retraced.{mended}
use Rattle.recovery.specs.Recovery as Recovery
use Rattle.recovered.specs.declared.Recovered.TheVariants.{Refused, ActionTwo, Restart}
use Rattle.recovered.specs.Applied.{with, applied}
use Rattle.recovered.specs.Allowed.{allowed}
use Rattle.decision.specs.declared.RestartPlan.{RestartPlan}
use Rattle.decision.specs.declared.OverflowPlan.{OverflowPlan}
use Rattle.decision.specs.declared.Decision.{Decision}
use Rattle.decision.specs.declared.Decision.TheVariants.{Answers, Corrects, Restarts, Resumes}
use Rattle.decision.specs.Decision.{program_for, arguments_for, done, bounded, PlanLow, OverflowLow, DecisionLow}
use Rattle.decision.specs.contracts.Decision as DecisionType

pack_low : (last : ℕ) (a : Address) → on_pack last a ≡ true → last < 0x10000 → (a.cylinder < 0x10000) × (a.head < 0x10000)
unfolding on_pack
pack_low last a h n =
    let cylinder = leb-true a.cylinder last (and_left (leb a.cylinder last) (leb a.head 18) h) in
    let head = leb-true a.head 18 (and_right (leb a.cylinder last) (leb a.head 18) h) in
    (omega (arith, cylinder, n), omega (arith, head))

track_low : (x : Extent) (a : Address) → allowed x a ≡ true → (a.cylinder < 0x10000) × (a.head < 0x10000)
track_low x a h = pack_low (last_of x.model) a (and_left (on_pack (last_of x.model) a) (within x a) h) (last_low x.model)

pub plan_low : (x : Extent) (q : RestartPlan) → allowed x q.track ≡ true → q.to < 0x10000 → PlanLow q
plan_low x q h n =
    let low = track_low x q.track h in
    record { to_low = n; cylinder_low = low.0; head_low = low.1 }

pub overflow_low : (x : Extent) (q : OverflowPlan) → allowed x q.track ≡ true → InBytes q.first × TicLow q.tic → OverflowLow q
overflow_low x q h n =
    let low = track_low x q.track h in
    record { first_low = n.0; tic_low = n.1; cylinder_low = low.0; head_low = low.1 }

module _ (x : Extent) (d : Decision) (q : RestartPlan) (c : Correction) (e : d ≡ Restarts q c) where
  pub restart_in : allowed x q.track ≡ true → Restarts q c ≡ bounded x d
  unfolding bounded pick
  restart_in h = rw (e, h)

  pub restart_out : allowed x q.track ≡ false → Answers ActionTwo ≡ bounded x d
  unfolding bounded pick
  restart_out h = rw (e, h)

module _ (x : Extent) (d : Decision) (q : OverflowPlan) (e : d ≡ Resumes q) where
  pub resumed_in : allowed x q.track ≡ true → Resumes q ≡ bounded x d
  unfolding bounded pick
  resumed_in h = rw (e, h)

  pub resumed_out : allowed x q.track ≡ false → Answers ActionTwo ≡ bounded x d
  unfolding bounded pick
  resumed_out h = rw (e, h)

below_two : (x : ℕ) → OneOf (0 ∷ 1 ∷ []) x → x < 2
below_two x (inl e) = omega arith
below_two x (inr e) = omega arith

pub no_restart : (x : Extent) (d : Decision) → OneOf (0 ∷ 1 ∷ []) (Declared.tag_of DecisionType.the_type d) → (d ≡ bounded x d) × DecisionLow d
unfolding bounded
no_restart x (Answers r) h = (refl, tt)
no_restart x (Corrects r c) h = (refl, tt)
no_restart x (Restarts q c) h = absurd (omega (arith, below_two 2 h))
no_restart x (Resumes q) h = absurd (omega (arith, below_two 3 h))

by_test : (b : Bool) (q : RestartPlan) (c : Correction) (st p a : List ℕ)
    → done (pick b (Restarts q c) (Answers ActionTwo)) st p a
    ≡ pick b (with (Restart q.kind) (mended c st) (program_for q) (arguments_for q)) (with ActionTwo st p a)
unfolding pick done
by_test true q c st p a = refl
by_test false q c st p a = refl

pub by_seek : (x : Extent) (q : RestartPlan) (c : Correction) (st p a : List ℕ)
    → done (bounded x (Restarts q c)) st p a
    ≡ pick (allowed x q.track) (with (Restart q.kind) (mended c st) (program_for q) (arguments_for q)) (with ActionTwo st p a)
unfolding bounded
by_seek x q c st p a = by_test (allowed x q.track) q c st p a

overflow_by_test : (b : Bool) (q : OverflowPlan) (st p a : List ℕ)
    → done (pick b (Resumes q) (Answers ActionTwo)) st p a
    ≡ pick b (with (Restart q.kind) st (overflow_program q.mask q.first q.tic) (restart_arguments_of q.track q.mask 0 [])) (with ActionTwo st p a)
unfolding pick done
overflow_by_test true q st p a = refl
overflow_by_test false q st p a = refl

pub overflow_by_seek : (x : Extent) (q : OverflowPlan) (st p a : List ℕ)
    → done (bounded x (Resumes q)) st p a
    ≡ pick (allowed x q.track) (with (Restart q.kind) st (overflow_program q.mask q.first q.tic) (restart_arguments_of q.track q.mask 0 []))
    (with ActionTwo st p a)
unfolding bounded
overflow_by_seek x q st p a = overflow_by_test (allowed x q.track) q st p a

pub refusal_is : (q : Question) (x : Extent) (st p a : List ℕ) → done (bounded x (Answers (Refused q))) st p a ≡ applied (Recovery.refused q) st p a
unfolding done bounded applied
refusal_is q x st p a = refl

pub applied_pick : (b : Bool) (u v : Recovery.Recovery) (st p a : List ℕ) → pick b (applied u st p a) (applied v st p a) ≡ applied (pick b u v) st p a
unfolding pick
applied_pick true u v st p a = refl
applied_pick false u v st p a = refl
