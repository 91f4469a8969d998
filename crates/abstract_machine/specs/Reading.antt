-- A whole reading over an abstract machine: run, recover, run on.
use Rattle.std.specs.Prelude.{ℕ, zero, suc, List, [], ◌∷◌, ◌++◌}
use Rattle.abstract_machine.specs.Machine.{Result, ended, cut, limit}

-- What recovery makes of a cut: a restart, a final state, or a stop; the first two are recoveries, with what is noted of each.
pub data CutAnswer (T R F N : Type 0) : Type 0 where
  restart : T → R → CutAnswer T R F N
  finish : T → F → CutAnswer T R F N
  stop : N → CutAnswer T R F N

-- the recoveries made so far, and the restarts built, each in order
pub record Log (T R : Type 0) : Type 0 where
  pub made : List T
  pub built : List R

-- A reading's end: final, "limit" by a run's own limit or by a cut after the recoveries that are allowed, or "stopped".
pub data Reading (T R L F C N : Type 0) : Type 0 where
  ends : Log T R → F → Reading T R L F C N
  limited : Log T R → L → Reading T R L F C N
  exhausted : Log T R → C → Reading T R L F C N
  stops : Log T R → N → C → Reading T R L F C N

-- `start` is a restarted run; `close` makes a run's end a final state.
module _ {T R L E F C N : Type 0} (start : R → Result L E C) (recover : C → CutAnswer T R F N) (close : E → F) where
  unfoldable pub noted : Log T R → T → List R → Log T R
  noted g t rs = record { made = g.made ++ t ∷ []; built = g.built ++ rs }

  -- k more recoveries are allowed: "It recovers from cuts by a faulted data area, as many as the chain's command limit; a cut after these
  -- ends it as 'limit'"
  unfoldable pub reading : ℕ → Log T R → Result L E C → Reading T R L F C N
  reading zero g (ended e) = ends g (close e)
  reading zero g (cut c) = exhausted g c
  reading zero g (limit l) = limited g l
  reading (suc k) g (ended e) = ends g (close e)
  reading (suc k) g (limit l) = limited g l
  reading (suc k) g (cut c) =
      elim (recover c) [
        | restart t r ↦ reading k (noted g t (r ∷ [])) (start r)
        | finish t f ↦ ends (noted g t []) f
        | stop n ↦ stops g n c
      ]
