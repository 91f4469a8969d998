-- Whatever recovery answers: a restart of 9 or 11 goes on where the read was cut.
--   recovery_goes_on   the theorem
use Rattle.std.specs.Prelude.{Result, Ok, Err}
use Prim.Native.Nat.{ℕ, ◌≤◌}
use native.Mathlib.Omega.{arith}
use mathlib.Core.Path.{◌≡◌, refl, ap, sym, ◌∙◌}
use mathlib.Core.Bool.{true, false}
use mathlib.Core.List.{List}
use lib.ListN.{length}
use Rattle.base.proofs.Choice.{both, either, never}
use Rattle.questions.specs.declared.Question.{Question}
use Rattle.questions.specs.declared.Question.TheVariants as Question
use Rattle.address.specs.declared.Address.{Address}
use Rattle.channel.specs.declared.Location.TheVariants.{Chain, Restart}
use Rattle.recovery.specs.Report.{Report}
use Rattle.recovery.specs.Recovery as Recovery
use Rattle.recovery.specs.Recovery.{Given, Kind, Recovery, restarts}
use Rattle.recovery.proofs.Answers.{five_by}
use Rattle.overflow_rest.specs.Rest.{RestGoesOn, has_rest, RecoveryGoesOn}
use Rattle.overflow_rest.proofs.Rest.{nine_goes_on, eleven_goes_on}
use Rattle.channel.specs.declared.Location.{Location}
use Rattle.channel.specs.declared.Ccw.{Ccw}

module _ (g : Given) (r : Report) (st : List ℕ) (low : length g.chain ≤ 0x1000) (j : Kind) (program restart_arguments s : List ℕ) where
  -- what a restart of 9 or 11 tells; other answers tell nothing
  abbrev Rests : Recovery → Type 0
  Rests x = x ≡ restarts j program restart_arguments s → has_rest j ≡ true → (s ≡ st) × RestGoesOn g r st program restart_arguments

  -- an answer that is no restart
  plain : (x : Recovery) → (x ≡ restarts j program restart_arguments s → ◌≡◌ {A = ℕ} 0 1) → Rests x
  plain x clash e h = let z = clash e in absurd (omega arith)

  refused : (q : Question) → Rests (Recovery.refused q)
  refused q = plain _ (λ e. cc)

  two : Rests Recovery.action_two
  two = plain _ (λ e. cc)

  -- another restart
  other : (k : Kind) (p a t : List ℕ) → has_rest k ≡ false → Rests (restarts k p a t)
  other k p a t off e h = let kind : k ≡ j = cc in never (sym off ∙ ap has_rest kind ∙ h)

  five_rests : Rests (Recovery.action_five g r st)
  unfolding has_rest
  five_rests =
      five_by Rests g r st refused two
      (λ c e t ps l d left over w.
      record {
        only = plain _ (λ e. cc);
        finishing = plain _ (λ e. cc);
        by_five = λ p a. other Recovery.five p a _ refl;
        by_five_a = λ p a. other Recovery.five_a p a _ refl;
      })

  home_rests : (k : Kind) (a : Address) (to : ℕ) → has_rest k ≡ false → Rests (Recovery.home_restart g r st k a to)
  unfolding Recovery.home_restart
  home_rests k a to off = both Rests _ (other k _ _ _ off) two

  eight_rests : Rests (Recovery.action_eight g r st)
  unfolding Recovery.action_eight Recovery.with_track has_rest
  eight_rests = either Rests _ (refused _) (λ a. either Rests _ (refused _) (λ c. home_rests Recovery.eight _ _ refl))

  next_rests : (a : Address) (f : Result (Location × Ccw) Location) → Rests (Recovery.on_next f (Recovery.refused Question.Agreement) (λ to d. Recovery.home_restart g r st Recovery.ten a to))
  unfolding Recovery.on_next has_rest
  next_rests a (Err l) = refused _
  next_rests a (Ok (Restart to, d)) = refused _
  next_rests a (Ok (Chain to, d)) = home_rests Recovery.ten a to refl

  ten_rests : Rests (Recovery.action_ten g r st)
  unfolding Recovery.action_ten Recovery.with_track Recovery.seek_restart Recovery.reached_restart has_rest
  ten_rests =
      either Rests _ (refused _)
      (λ a.
      either Rests _ (refused _)
      (λ c. both Rests _ (both Rests _ (next_rests a _) (refused _)) (either Rests _ (refused _) (λ b. home_rests Recovery.ten_a _ _ refl))))

  tried_rests : (n : ℕ) → Rests (Recovery.tried g r st n)
  unfolding Recovery.tried
  tried_rests n = both Rests _ (plain _ (λ e. cc)) (plain _ (λ e. cc))

  recover_rests : Rests (Recovery.recover g r st)
  unfolding Recovery.recover Recovery.act
  recover_rests =
      let nine : Rests (Recovery.action_nine g r st) = λ e h. let v = nine_goes_on g r st j program restart_arguments s low e in (v.1, v.2) in
      let eleven : Rests (Recovery.action_eleven g r st) = λ e h. let v = eleven_goes_on g r st j program restart_arguments s low e in (v.1, v.2) in
      either Rests _ (refused _)
      (λ k.
      both Rests _ (plain _ (λ e. cc))
      (both Rests _ two
      (both Rests _ (tried_rests 1)
      (both Rests _ (tried_rests 10)
      (both Rests _ five_rests (both Rests _ eight_rests (both Rests _ nine (both Rests _ ten_rests (both Rests _ eleven (refused _))))))))))

pub recovery_goes_on : RecoveryGoesOn
recovery_goes_on g r st j program restart_arguments s low = recover_rests g r st low j program restart_arguments s
