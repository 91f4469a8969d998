-- Where recovery agrees with recovery without actions 9 and 11: `others_stay`; and where it does not: `overflow_alone`.
use Prim.Native.Nat.{ℕ}
use mathlib.Core.Path.{◌≡◌, refl, ◌∙◌}
use mathlib.Core.Logic.{◌≢◌}
use mathlib.Core.List.{List}
use lib.Dec.{eqb}
use borrow.Author.Tests.{ne_eqb}
use Rattle.base.specs.Choice.{pick, opt}
use Rattle.base.proofs.Choice.{choose, found_if, pick_false}
use Rattle.recovery.specs.Report.{Report}
use Rattle.recovery.specs.Recovery.{Given, act, recover}
use Rattle.other_actions.specs.Other.{act_without, recover_without, OthersStay, OverflowAlone}

-- ---- another action

module _ (g : Given) (r : Report) (st : List ℕ) where
  acts_alike : (k : ℕ) → k ≢ 9 → k ≢ 11 → act g r st k ≡ act_without g r st k
  unfolding act act_without
  acts_alike k nine eleven =
      choose (eqb k 1) refl
      (choose (eqb k 2) refl
      (choose (eqb k 3) refl
      (choose (eqb k 4) refl
      (choose (eqb k 5) refl
      (choose (eqb k 8) refl
      (pick_false _ _ (ne_eqb k 9 nine) ∙ choose (eqb k 10) refl (pick_false _ _ (ne_eqb k 11 eleven))))))))

pub others_stay : OthersStay
unfolding recover recover_without
others_stay g r st other = found_if _ refl (λ k e. acts_alike g r st k (other k e).0 (other k e).1)

-- ---- the two

pub overflow_alone : OverflowAlone
unfolding recover recover_without act act_without pick opt
overflow_alone = (λ g r st e. (rw e, rw e), λ g r st e. (rw e, rw e))
