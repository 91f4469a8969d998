-- Runs and whole readings over an abstract machine that knows nothing of disks: commands, cuts, restarts.
use Rattle.std.specs.Prelude.{ℕ, zero, suc, Bool, false, ◌&&◌, List, [], ◌∷◌, Option}
use Rattle.base.specs.Choice.{opt}

-- What one command comes to: the chain goes on, it ends, or a faulted data area cuts it.
pub data Stepped (S E C : Type 0) : Type 0 where
  goes : S → Stepped S E C
  ends : E → Stepped S E C
  cuts : C → Stepped S E C

-- What a run comes to: an end, a cut, or "limit" with what that shows.
pub data Result (L E C : Type 0) : Type 0 where
  ended : E → Result L E C
  cut : C → Result L E C
  limit : L → Result L E C

module _ {S E C : Type 0} (step : S → Stepped S E C) where
  -- at most n commands: "A run that begins that many commands without ending fetches no more and answers 'limit'"; `shows` is what that shows of
  -- the state behind the last command
  module _ {L : Type 0} (shows : S → L) where
    unfoldable pub run : ℕ → S → Result L E C
    run zero s = limit (shows s)
    run (suc n) s = elim (step s) [ goes t ↦ run n t | ends e ↦ ended e | cuts c ↦ cut c ]

  -- what `note` finds in the commands of a run, in order
  module _ {T : Type 0} (note : S → Option T) where
    unfoldable pub notes : ℕ → S → List T
    notes zero s = []
    notes (suc n) s =
        elim (step s) [
          | goes t ↦ opt (note s) (notes n t) (λ x. x ∷ notes n t)
          | ends e ↦ opt (note s) [] (λ x. x ∷ [])
          | cuts c ↦ opt (note s) [] (λ x. x ∷ [])
        ]

  -- P holds of the state before each command of a run
  module _ (P : S → Type 0) where
    unfoldable pub Along : ℕ → S → Type 0
    Along zero s = Unit {0}
    Along (suc n) s = P s × elim (step s) as (λ o. Type 0) [ goes t ↦ Along n t | ends e ↦ Unit {0} | cuts c ↦ Unit {0} ]

  -- whether a run ends by a command that `last` marks, right behind one that `before` marks; b says so of the command before the first
  module _ (before last : S → Bool) where
    unfoldable pub ends_behind : Bool → ℕ → S → Bool
    ends_behind b zero s = false
    ends_behind b (suc n) s = elim (step s) [ goes t ↦ ends_behind (before s) n t | ends e ↦ b && last s | cuts c ↦ false ]
