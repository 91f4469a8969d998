-- What stops a reading is what recovery answered to a cut.
--   stopped_by   what holds of every such answer holds of what stops a reading
use Prim.Native.Nat.{ℕ, zero, suc}
use native.Mathlib.Omega.{arith}
use mathlib.Core.Path.{◌≡◌, refl, sym, ◌∙◌}
use mathlib.Core.List.{[], ◌∷◌}
use Rattle.abstract_machine.specs.Machine.{Result, ended, cut, limit}
use Rattle.abstract_machine.specs.Reading.{CutAnswer, restart, finish, stop, Log, noted, stops, reading}
use Rattle.abstract_machine.proofs.Whole.{reading_ended, reading_limited, reading_exhausted, reading_stop, reading_restart, reading_finish}

module _ {T R L E F C X : Type 0} (start : R → Result L E C) (recover : C → CutAnswer T R F X) (close : E → F) (P : X → Type 0)
    (each : (c : C) (x : X) → recover c ≡ stop x → P x) where
  -- with k recoveries allowed, from the run r on
  abbrev Stopped : ℕ → Type 0
  Stopped k = (g : Log T R) (r : Result L E C) (h : Log T R) (x : X) (c : C) → reading start recover close k g r ≡ stops h x c → P x

  pub stopped_by : (k : ℕ) → Stopped k
  stopped_by zero g (ended e) h x c q = let z : ◌≡◌ {A = ℕ} 0 1 = cc (reading_ended start recover close zero g e) in absurd (omega arith)
  stopped_by zero g (limit l) h x c q = let z : ◌≡◌ {A = ℕ} 0 1 = cc (reading_limited start recover close zero g l) in absurd (omega arith)
  stopped_by zero g (cut d) h x c q = let z : ◌≡◌ {A = ℕ} 0 1 = cc (reading_exhausted start recover close g d) in absurd (omega arith)
  stopped_by (suc k) g (ended e) h x c q = let z : ◌≡◌ {A = ℕ} 0 1 = cc (reading_ended start recover close (suc k) g e) in absurd (omega arith)
  stopped_by (suc k) g (limit l) h x c q = let z : ◌≡◌ {A = ℕ} 0 1 = cc (reading_limited start recover close (suc k) g l) in absurd (omega arith)
  stopped_by (suc k) g (cut d) h x c q = by (stopped_by k) (recover d) refl
    where
      by : Stopped k → (a : CutAnswer T R F X) → recover d ≡ a → P x
      by later (restart t r) e =
          later (noted start recover close g t (r ∷ [])) (start r) h x c (sym (reading_restart start recover close k g d t r e) ∙ q)
      by later (finish t f) e = let z : ◌≡◌ {A = ℕ} 0 1 = cc (reading_finish start recover close k g d t f e) in absurd (omega arith)
      by later (stop y) e = let same : y ≡ x = cc (reading_stop start recover close k g d y e) in each d x (rw same at e)
