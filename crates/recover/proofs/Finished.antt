-- Recovery finishes a chain with the CSW of its report, less unit check: that fits its bytes.
--   FinishLow         of an answer of the definitions
--   recovered_low     of the code's answer
use Prim.Native.Nat.{ℕ}
use mathlib.Core.Path.{◌≡◌, sym, ap, subst}
use mathlib.Core.List.{List}
use Rattle.channel.specs.declared.Csw.{Csw}
use Rattle.location.specs.Low.{CswLow}
use Rattle.recovery.specs.Report.{Report}
use Rattle.recovery.specs.Recovery as Recovery
use Rattle.recovery.specs.Recovery.{Given}
use Rattle.recovery.proofs.Answers.{five_by, recover_by}
use Rattle.recovered.specs.Applied.{Applied, applied, RecoveredLow}

abbrev FinishLow : Recovery.Recovery → Type 0
FinishLow (Recovery.refused q) = Unit {0}
FinishLow Recovery.action_one = Unit {0}
FinishLow Recovery.action_two = Unit {0}
FinishLow Recovery.repeats = Unit {0}
FinishLow (Recovery.corrected_only s) = Unit {0}
FinishLow (Recovery.finished w s) = CswLow w
FinishLow (Recovery.restarts k p a s) = Unit {0}

less_low : (w : Csw) → CswLow w → CswLow (Recovery.less_unit_check w)
unfolding Recovery.less_unit_check
less_low w h = record { address = h.address; count = h.count }

recover_low : (g : Given) (r : Report) (st : List ℕ) → CswLow r.csw → FinishLow (Recovery.recover g r st)
recover_low g r st low =
    recover_by FinishLow g r st (λ q. tt) tt tt tt (λ k p a. tt)
    (five_by FinishLow g r st (λ q. tt) tt
    (λ c first ok ps l d left over w. record { only = tt; finishing = less_low r.csw low; by_five = λ p a. tt; by_five_a = λ p a. tt }))

applied_low : (x : Recovery.Recovery) (st p a : List ℕ) → FinishLow x → RecoveredLow (applied x st p a).answer
unfolding applied
applied_low (Recovery.refused q) st p a h = tt
applied_low Recovery.action_one st p a h = tt
applied_low Recovery.action_two st p a h = tt
applied_low Recovery.repeats st p a h = tt
applied_low (Recovery.corrected_only s) st p a h = tt
applied_low (Recovery.finished w s) st p a h = h
applied_low (Recovery.restarts k q b s) st p a h = tt

pub recovered_low : (g : Given) (r : Report) (st p a : List ℕ) (out : Applied) → CswLow r.csw → out ≡ applied (Recovery.recover g r st) st p a → RecoveredLow out.answer
recovered_low g r st p a out low e =
    subst RecoveredLow (sym (ap (λ (x : Applied). x.answer) e)) (applied_low (Recovery.recover g r st) st p a (recover_low g r st low))
