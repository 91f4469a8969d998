-- Recovery with and without overflow actions 9 and 11, and where the two agree (document 02, "Overflow actions 9 and 11"): "Number 7 remains for 6, 6A
-- and 7. Every report whose row gives another action gets its old answer, proved over all reports."
--   act_without, recover_without  recovery without them, as document 01 has it
--   GivesOther                   the row of a report gives neither
--   OthersStay                   then recovery answers as without them
--   OverflowAlone                where the row gives one of them, it is built; without them number 7 refused it
use Rattle.std.specs.Prelude.{ℕ, ◌≡◌, ◌≢◌, List, eqb, Some}
use Rattle.base.specs.Choice.{pick, opt}
use Rattle.questions.specs.declared.Question.TheVariants as Question
use Rattle.recovery.specs.Table.{Row, action_for}
use Rattle.recovery.specs.Report.{Report}
use Rattle.recovery.specs.Recovery.{Given, Recovery, refused, action_one, action_two, tried, action_five, action_eight, action_nine, action_ten, action_eleven, recover}

module _ (g : Given) (r : Report) (st : List ℕ) where
  -- question 7: "Is the action other than 6, 6A, 7, 9, 11?"
  unfoldable pub act_without : ℕ → Recovery
  act_without k =
      pick (eqb k 1) action_one
      (pick (eqb k 2) action_two
      (pick (eqb k 3) (tried g r st 1)
      (pick (eqb k 4) (tried g r st 10)
      (pick (eqb k 5) (action_five g r st)
      (pick (eqb k 8) (action_eight g r st)
      (pick (eqb k 10) (action_ten g r st)
      (refused Question.Action)))))))

  -- question 6: "Does a row match?"
  unfoldable pub recover_without : Recovery
  recover_without = opt (action_for g.rows r.sense) (refused Question.Row) act_without

-- "report whose row gives another action"; or no row fits it
abbrev pub GivesOther : List Row → Report → Type 0
GivesOther rows r = (k : ℕ) → action_for rows r.sense ≡ Some k → (k ≢ 9) × (k ≢ 11)

-- "gets its old answer, proved over all reports"
abbrev pub OthersStay : Type 0
OthersStay = (g : Given) (r : Report) (st : List ℕ) → GivesOther g.rows r → recover g r st ≡ recover_without g r st

-- An action is what recovery answers where the row gives this code; without it number 7 refuses.
abbrev pub Alone : ℕ → (Given → Report → List ℕ → Recovery) → Type 0
Alone k action =
    (g : Given) (r : Report) (st : List ℕ) → action_for g.rows r.sense ≡ Some k
    → (recover g r st ≡ action g r st) × (recover_without g r st ≡ refused Question.Action)

-- of 9 and of 11
abbrev pub OverflowAlone : Type 0
OverflowAlone = Alone 9 action_nine × Alone 11 action_eleven
