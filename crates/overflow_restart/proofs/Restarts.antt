-- A restart inside an overflow record, from the tests that the code makes.
--   rest_is, rest_low                  restart CCW 1
--   resumed                            a restart
--   alone, next-broken .. next-chain   by whether the interrupted CCW chains, and by the CCW that comes next
use Rattle.std.specs.Prelude.{Option, Some, None, Result, Ok, Err}
use Prim.Native.Nat.{ℕ, ◌+◌, ◌-◌, ◌<◌}
use native.Mathlib.Omega.{arith}
use mathlib.Core.Path.{◌≡◌, refl, ap, sym, ◌∙◌}
use mathlib.Core.Bool.{Bool, true, false, ◌||◌}
use mathlib.Core.List.{List}
use Rattle.base.specs.Choice.{pick}
use Rattle.base.proofs.Choice.{pick_true, pick_false, split}
use Rattle.questions.specs.declared.Question.TheVariants as Question
use Rattle.address.specs.declared.Address.{Address}
use Rattle.channel.specs.declared.Ccw.{Ccw}
use Rattle.channel.specs.declared.Location.{Location}
use Rattle.channel.specs.declared.Location.TheVariants.{Chain, Restart}
use Rattle.channel.specs.Ccw.{chains_data, chains_command, skips, next, resolve}
use Rattle.channel.specs.Fetch.{InBytes}
use Rattle.channel.specs.Walk.{readable}
use Rattle.channel.proofs.Readable.{room}
use Rattle.restart.specs.Restart.{rest_ccw}
use Rattle.recovery.specs.Recovery as Recovery
use Rattle.recovery.specs.Recovery.{seek_allowed, only_chain, on_next}
use Rattle.recovered.specs.declared.Kind.{Kind}
use Rattle.recovered.specs.declared.Recovered.TheVariants as Recovered
use Rattle.recovered.specs.Applied.{applied}
use Rattle.recovered.specs.Allowed.{allowed}
use Rattle.decision.specs.declared.OverflowPlan.{OverflowPlan}
use Rattle.decision.specs.declared.Decision.{Decision}
use Rattle.decision.specs.declared.Decision.TheVariants.{Answers, Resumes}
use Rattle.decision.specs.Decision.{done, bounded}
use Rattle.decision.proofs.Bounded.{overflow_by_seek, applied_pick}
use Rattle.overflow_restart.specs.declared.WalkEnd.{WalkEnd}
use Rattle.overflow_restart.specs.Restart.{DecidesKind, OverflowRestarts, GoesFrom}

-- the answer where report and chain do not agree
abbrev refusal : Decision
refusal = Answers (Recovered.Refused Question.Agreement)

-- ---- restart CCW 1

moved_address : (b : Bool) (a n : ℕ) → a + pick b 0 n ≡ pick b a (a + n)
unfolding pick
moved_address true a n = omega arith
moved_address false a n = refl

module _ (c : Ccw) (left m : ℕ) (e : m ≡ pick (skips c) 0 (c.count - left)) where
  pub rest_is : record { command = 0x06; address = c.address + m; flags = c.flags; count = left } ≡ rest_ccw c left
  unfolding rest_ccw
  rest_is =
      ap (λ n. record { command = 0x06; address = n; flags = c.flags; count = left })
      (ap (λ n. c.address + n) e ∙ moved_address (skips c) c.address (c.count - left))

  pub rest_low : InBytes c → readable 65536 c ≡ true → c.address + m < 16777216
  rest_low i h =
      split (skips c)
      (λ s. let z : m ≡ 0 = e ∙ pick_true _ _ s in omega (arith, i.address, z))
      (λ s. let z : m ≡ c.count - left = e ∙ pick_false _ _ s in omega (arith, room 65536 c h s, z))

-- ---- the restart

module _ (mask : Option ℕ) (track : Address) (kind : Kind) where
  pub resumed : (c : Ccw) (left : ℕ) (tic : Option ℕ) (first : Ccw) → first ≡ rest_ccw c left
      → OverflowRestarts mask track kind c left tic (Resumes (record { track = track; mask = mask; kind = kind; first = first; tic = tic }))
  unfolding Recovery.overflow_restart seek_allowed applied
  resumed c left tic first e = λ chain k rows x r st p a i shown m.
      let planned : OverflowPlan = record { track = track; mask = mask; kind = kind; first = rest_ccw c left; tic = tic } in
      rw (e, overflow_by_seek x planned st p a, ← i, shown, m)
      (applied_pick (allowed x track) (Recovery.restarts k _ _ st) Recovery.action_two st p a)

  module _ (chain : List ℕ) (e : WalkEnd) where
    pub alone : (d : Decision) → (chains_data e.ccw || chains_command e.ccw) ≡ false → OverflowRestarts mask track kind e.ccw e.left None d
        → GoesFrom chain mask track kind e d
    unfolding Recovery.from_interrupted
    alone d h q = λ k rows x r st p a i shown m. q chain k rows x r st p a i shown m ∙ sym (ap (λ v. applied v st p a) (pick_false _ _ h))

    module _ (h : (chains_data e.ccw || chains_command e.ccw) ≡ true) where
      abbrev behind : Result (Location × Ccw) Location
      behind = resolve (only_chain chain) e.at (next e.at)

      -- by the CCW that comes next
      by_next : (d : Decision) (f : Result (Location × Ccw) Location) → f ≡ behind
          → DecidesKind (λ k g r st. on_next f (Recovery.refused Question.Agreement) (λ to b. Recovery.overflow_restart g r st k track e.ccw (Some to)))
          chain (λ w. w.count ≡ e.left) mask kind d
          → GoesFrom chain mask track kind e d
      unfolding Recovery.from_interrupted
      by_next d f n q = λ k rows x r st p a i shown m.
          q k rows x r st p a i shown m ∙ rw n (sym (ap (λ v. applied v st p a) (pick_true _ _ h)))

      pub next_broken : (y : Location) → Err y ≡ behind → GoesFrom chain mask track kind e refusal
      unfolding on_next applied done bounded
      next_broken y n = by_next refusal (Err y) n (λ k rows x r st p a i shown m. refl)

      pub next_restart : (b : ℕ) (c : Ccw) → Ok (Restart b, c) ≡ behind → GoesFrom chain mask track kind e refusal
      unfolding on_next applied done bounded
      next_restart b c n = by_next refusal (Ok (Restart b, c)) n (λ k rows x r st p a i shown m. refl)

      pub next_chain : (to : ℕ) (c : Ccw) (d : Decision) → Ok (Chain to, c) ≡ behind → OverflowRestarts mask track kind e.ccw e.left (Some to) d
          → GoesFrom chain mask track kind e d
      unfolding on_next
      next_chain to c d n q = by_next d (Ok (Chain to, c)) n (q chain)
