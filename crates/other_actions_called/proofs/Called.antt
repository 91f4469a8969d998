-- The calls of recovery answer as without actions 9 and 11 where the row gives another: `call_stays`, and from it `giruve_recover_stays`.
use Prim.Native.Nat.{ℕ}
use mathlib.Core.Path.{◌≡◌, refl, ap, ◌∙◌}
use mathlib.Core.List.{List}
use Rattle.base.proofs.Choice.{choose, found, found_if}
use Rattle.address.specs.declared.Model.{Model}
use Rattle.address.specs.Within.{extent_of}
use Rattle.recovery.specs.Table.{rows}
use Rattle.other_actions.proofs.Other.{others_stay}
use Rattle.recovered.specs.Applied.{applied, given_of}
use Rattle.recover.specs.Recover.{recover_call}
use Rattle.giruve.specs.Model.{recover_call_by}
use Rattle.giruve.specs.Recover.{recovery_handed}
use Rattle.other_actions_called.specs.Called.{call_without, call_without_by, ReportGivesOther, CallStays, GiruveRecoverStays}

stays : (m : Model) (chain report extent st p a : List ℕ) → ReportGivesOther report → recover_call m chain report extent st p a ≡ call_without m chain report extent st p a
unfolding recover_call call_without
stays m chain report extent st p a other =
    choose _
    (found_if _ refl
    (λ r e. choose _ (ap (λ q. applied q st p a) (others_stay (given_of rows chain (extent_of m extent)) r st (other r e))) refl))
    refl

stays_by : (model : ℕ) (chain report extent st p a : List ℕ) → ReportGivesOther report
    → recover_call_by model chain report extent st p a ≡ call_without_by model chain report extent st p a
unfolding recover_call_by call_without_by
stays_by model chain report extent st p a other = found _ refl (λ m. stays m chain report extent st p a other)

pub call_stays : CallStays
call_stays m chain report extent st p a out e other = e ∙ stays m chain report extent st p a other

pub giruve_recover_stays : GiruveRecoverStays
giruve_recover_stays model chain report extent st p a answer h e other = e ∙ ap (recovery_handed answer st p a) (stays_by model chain report extent st p a other)
