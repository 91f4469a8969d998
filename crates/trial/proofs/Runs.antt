-- A run, from the tests and calls that its code makes.
--   Alike                       two places in a run that come to the same
--   goes_on, ends_so, cut_so, out    one command more; its end, its cut, and "limit"
--   past_first, tic_is          whether a run begins with a TIC
--   checked_first, begun_so     the whole run: a TIC first, and any other
use Rattle.std.specs.Prelude.{Some, None}
use Prim.Native.Nat.{ℕ, ◌-◌, ◌<◌, ◌≤◌}
use mathlib.Core.Path.{◌≡◌, sym, ◌∙◌}
use mathlib.Core.Bool.{Bool, true, false}
use mathlib.Core.List.{List}
use Rattle.base.specs.Choice.{pick, opt}
use Rattle.faults.specs.Faults.{Fault, faults_at}
use Rattle.abstract_machine.specs.Machine.{Result, run}
use Rattle.abstract_machine.proofs.Run.{run_again, run_ended, run_cut_off, run_none}
use Rattle.channel.specs.declared.Ccw.{Ccw}
use Rattle.channel.specs.Csw.{csw_at}
use Rattle.channel.specs.declared.Csw.{Csw}
use Rattle.channel.specs.declared.Location.{Location}
use Rattle.channel.specs.Ccw.{Lent, is_tic, fetch}
use Rattle.drive.specs.Drive as Abstract
use Rattle.drive.specs.Step as Step
use Rattle.drive.specs.Run.{Limit, limit_of, start, tic_first, run_from}
use Rattle.position.specs.declared.Drive.{Drive}
use Rattle.position.specs.Standing.{drive_of}
use Rattle.command.specs.declared.State.{State}
use Rattle.command.specs.declared.End.{End}
use Rattle.command.specs.declared.Cut.{Cut}
use Rattle.command.specs.declared.Status.TheVariants.{Quiet}
use Rattle.command.specs.declared.Answer.TheVariants.{Goes, Ends, Cuts}
use Rattle.command.specs.Answer.{state_of, setting_with, lent_of}
use Rattle.execute.specs.Executes.{Steps}
use Rattle.trial.specs.declared.Ran.{Ran}
use Rattle.trial.specs.Run.{RunsOn, Runs}

-- ---- command by command

module _ (last : ℕ) (chain arguments program restart_arguments image faults : List ℕ) where
  -- what n commands from a state and storage on come to
  abbrev rest : List Fault → ℕ → State → List ℕ → Result Limit Step.End Step.Cut
  rest fs n s st = run (Step.step fs (setting_with last (lent_of chain arguments program restart_arguments) image)) limit_of n (state_of s st)

  abbrev pub Alike : ℕ → State → List ℕ → ℕ → State → List ℕ → Type 0
  Alike n s st m t u = (fs : List Fault) → faults_at faults 0 ≡ Some fs → rest fs n s st ≡ rest fs m t u

  module _ (m : ℕ) (s₀ : State) (st₀ : List ℕ) (n : ℕ) (s : State) (st : List ℕ) (same : Alike n s st m s₀ st₀) where
    pub goes_on : (t : State) (after : List ℕ) → 0 < n → Steps last chain arguments program restart_arguments image faults s st (Goes t) after
        → Alike (n - 1) t after m s₀ st₀
    goes_on t after h e fs l =
        sym (run_again (Step.step fs (setting_with last (lent_of chain arguments program restart_arguments) image)) limit_of n (state_of s st) (state_of t after) h (e fs l)) ∙ same fs l

    pub ends_so : (k : End) (after : List ℕ) → 0 < n → Steps last chain arguments program restart_arguments image faults s st (Ends k) after
        → RunsOn last chain arguments program restart_arguments image faults m s₀ st₀ (Ran.Ended k) after
    ends_so k after h e fs l = sym (same fs l) ∙ run_ended (Step.step fs (setting_with last (lent_of chain arguments program restart_arguments) image)) limit_of n (state_of s st) _ h (e fs l)

    pub cut_so : (k : Cut) (after : List ℕ) → 0 < n → Steps last chain arguments program restart_arguments image faults s st (Cuts k) after
        → RunsOn last chain arguments program restart_arguments image faults m s₀ st₀ (Ran.Cut k) after
    cut_so k after h e fs l = sym (same fs l) ∙ run_cut_off (Step.step fs (setting_with last (lent_of chain arguments program restart_arguments) image)) limit_of n (state_of s st) _ h (e fs l)

    pub out : n ≤ 0 → (c : Csw) → c ≡ csw_at s.last 0x0c 0 s.left
        → RunsOn last chain arguments program restart_arguments image faults m s₀ st₀ (Ran.Limited (record { csw = c; mask = s.drive.mask })) st
    unfolding limit_of
    out h c e fs l = rw e (sym (same fs l) ∙ run_none (Step.step fs (setting_with last (lent_of chain arguments program restart_arguments) image)) limit_of n (state_of s st) h)

-- ---- the first CCW

module _ (p : Lent) (l : Location) where
  pub past_first : None ≡ fetch p l → false ≡ tic_first p l
  unfolding tic_first opt
  past_first e = rw (← e)

  pub tic_is : {b : Bool} (c : Ccw) → Some c ≡ fetch p l → b ≡ is_tic c → b ≡ tic_first p l
  unfolding tic_first opt
  tic_is c e q = rw (← e) q

-- ---- the whole run

module _ (last : ℕ) (chain arguments program restart_arguments image faults : List ℕ) (n : ℕ) (l : Location) (st : List ℕ) where
  pub checked_first : (c : Csw) → c ≡ csw_at l 0 0x20 0 → true ≡ tic_first (lent_of chain arguments program restart_arguments) l
      → Runs last chain arguments program restart_arguments image faults n l st (Ran.Ended (record { csw = c; status = Quiet; mask = None })) st
  unfolding run_from pick Abstract.initial
  checked_first c e h fs q = rw (← h, e)

  pub begun_so : (d : Drive) → drive_of d ≡ Abstract.initial → false ≡ tic_first (lent_of chain arguments program restart_arguments) l → (r : Ran) (after : List ℕ)
      → RunsOn last chain arguments program restart_arguments image faults n (record { at = l; last = l; left = 0; drive = d }) st r after
      → Runs last chain arguments program restart_arguments image faults n l st r after
  unfolding run_from pick start
  begun_so d e h r after ran fs q = rw (← h, ← e) (ran fs q)
