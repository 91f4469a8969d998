-- What is decided for each action.
--   acts-one .. acts-other     what is decided for each action
--   no_row, row_chosen         whether a row of the error table fits
use Prim.Native.Nat.{ℕ}
use mathlib.Core.Path.{◌≡◌, refl, ap, sym, ◌∙◌}
use mathlib.Core.List.{List}
use lib.Dec.{ltb}
use mathlib.Core.Logic.{◌⊎◌, inl, inr}
use Rattle.std.specs.Prelude.{Option, Some, None}
use Rattle.base.specs.Choice.{pick, opt}
use Rattle.base.proofs.Choice.{split, pick_true, pick_false}
use Rattle.questions.specs.declared.Question.TheVariants as Question
use Rattle.address.specs.declared.Extent.{Extent}
use Rattle.recovery.specs.Table.{rows, action_for}
use Rattle.recovery.specs.Report.{Report}
use Rattle.recovery.specs.Recovery as Recovery
use Rattle.recovery.specs.Recovery.{Given}
use Rattle.error_table.specs.declared.Action.{Action}
use Rattle.error_table.specs.declared.Action.TheVariants.{One, Two, Three, Four, Five, Six, SixA, Seven, Eight, Nine, Ten, Eleven}
use Rattle.error_table.specs.Table.{code_of, Chooses}
use Rattle.report.specs.declared.Told.{Told}
use Rattle.recovered.specs.declared.Recovered.{Recovered}
use Rattle.recovered.specs.declared.Recovered.TheVariants.{Refused, ActionOne, ActionTwo}
use Rattle.recovered.specs.Applied.{with, applied, given_of}
use Rattle.decision.specs.declared.Decision.{Decision}
use Rattle.decision.specs.declared.Decision.TheVariants.{Answers}
use Rattle.decision.specs.Decision.{done, bounded, Decides}
use Rattle.action_eight_ten.specs.EightTen.{Acts}
use Rattle.recover.specs.Recover.{ActsBy, DecidesIn, tried_of}

module _ (chain : List ℕ) (size : ℕ) (t : Told) where
  abbrev By : Action → Decision → Type 0
  By action d = ActsBy action chain size t d

  -- from what the definition makes of an action
  by_action : (action : Action) (f : Given → Report → List ℕ → Recovery.Recovery) (d : Decision)
      → ((g : Given) (r : Report) (st : List ℕ) → Recovery.act g r st (code_of action) ≡ f g r st) → Decides f chain size t d → By action d
  by_action action f d h q = λ rows x r st p a u m. q rows x r st p a u m ∙ ap (λ v. applied v st p a) (sym (h (given_of rows chain x) r st))

  pub acts_one : By One (Answers ActionOne)
  unfolding Recovery.act pick applied done bounded
  acts_one = λ rows x r st p a u m. refl

  pub acts_two : By Two (Answers ActionTwo)
  unfolding Recovery.act pick applied done bounded
  acts_two = λ rows x r st p a u m. refl

  tried_is : (v : Recovered) (limit : ℕ) → v ≡ tried_of t.tries limit → Decides (λ g r st. Recovery.tried g r st limit) chain size t (Answers v)
  unfolding Recovery.tried tried_of applied done bounded
  tried_is v limit f = λ rows x r st p a u m.
      ap (λ q. with q st p a) f
      ∙ rw u.tries
      (split (ltb t.tries limit)
      (λ e. ap (λ q. with q st p a) (pick_true _ _ e) ∙ sym (ap (λ q. applied q st p a) (pick_true _ _ e)))
      (λ e. ap (λ q. with q st p a) (pick_false _ _ e) ∙ sym (ap (λ q. applied q st p a) (pick_false _ _ e))))

  pub acts_three : (v : Recovered) → v ≡ tried_of t.tries 1 → By Three (Answers v)
  unfolding Recovery.act pick
  acts_three v f = by_action Three (λ g r st. Recovery.tried g r st 1) (Answers v) (λ g r st. refl) (tried_is v 1 f)

  pub acts_four : (v : Recovered) → v ≡ tried_of t.tries 10 → By Four (Answers v)
  unfolding Recovery.act pick
  acts_four v f = by_action Four (λ g r st. Recovery.tried g r st 10) (Answers v) (λ g r st. refl) (tried_is v 10 f)

  pub acts_five : (d : Decision) → Decides Recovery.action_five chain size t d → By Five d
  unfolding Recovery.act pick
  acts_five d f = by_action Five Recovery.action_five d (λ g r st. refl) f

  pub acts_eight : (d : Decision) → Acts Recovery.action_eight chain t d → By Eight d
  unfolding Recovery.act pick
  acts_eight d f = by_action Eight Recovery.action_eight d (λ g r st. refl) (f size)

  pub acts_nine : (d : Decision) → Decides Recovery.action_nine chain size t d → By Nine d
  unfolding Recovery.act pick
  acts_nine d f = by_action Nine Recovery.action_nine d (λ g r st. refl) f

  pub acts_ten : (d : Decision) → Acts Recovery.action_ten chain t d → By Ten d
  unfolding Recovery.act pick
  acts_ten d f = by_action Ten Recovery.action_ten d (λ g r st. refl) (f size)

  pub acts_eleven : (d : Decision) → Decides Recovery.action_eleven chain size t d → By Eleven d
  unfolding Recovery.act pick
  acts_eleven d f = by_action Eleven Recovery.action_eleven d (λ g r st. refl) f

  pub acts_other : (action : Action) → (action ≡ Six) ⊎ (action ≡ SixA) ⊎ (action ≡ Seven) → By action (Answers (Refused Question.Action))
  unfolding Recovery.act pick applied done bounded
  acts_other action (inl e) = rw e (λ rows x r st p a u m. refl)
  acts_other action (inr (inl e)) = rw e (λ rows x r st p a u m. refl)
  acts_other action (inr (inr e)) = rw e (λ rows x r st p a u m. refl)

  -- ---- the error table

  module _ (x : Extent) (c : Option Action) (h : Chooses t.sense.byte0 t.sense.byte1 t.sense.byte2 c) where
    pub no_row : c ≡ None → DecidesIn x chain size t (Answers (Refused Question.Row))
    unfolding Recovery.recover applied opt done
    no_row e = λ r st p a u m.
        let none_fits : None ≡ action_for rows r.sense = rw e at (h r.sense u.sense.byte0 u.sense.byte1 u.sense.byte2) in rw (← none_fits)

    pub row_chosen : (action : Action) (o d : Decision) → c ≡ Some action → By action o → d ≡ bounded x o → DecidesIn x chain size t d
    unfolding Recovery.recover opt
    row_chosen action o d e q f = λ r st p a u m.
        let fits : Some (code_of action) ≡ action_for rows r.sense = rw e at (h r.sense u.sense.byte0 u.sense.byte1 u.sense.byte2) in
        ap (λ v. done v st p a) f ∙ q rows x r st p a u m ∙ rw (← fits)
