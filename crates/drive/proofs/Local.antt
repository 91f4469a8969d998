-- A run that has come to the chain does not see the restart program.
--   with_program        a setting with another restart program and its arguments
--   execute_local       a CCW of the chain does the same with it
--   plan_local          the plan of a command in the chain is the same with it
--   step_local          so is what the command comes to
--   run_local           so is the whole run
--   run_joins           a run whose first command comes to the same as one in the chain goes on like that one
use Rattle.std.specs.Prelude.{Result, Ok, Err}
use Prim.Native.Nat.{ℕ, zero, suc}
use mathlib.Core.Path.{◌≡◌, refl, sym, ◌∙◌}
use mathlib.Core.List.{List}
use lib.ListN.{length}
use Rattle.base.proofs.Choice.{choose, found}
use Rattle.faults.specs.Faults.{Fault}
use Rattle.abstract_machine.specs.Machine.{goes, ends, cuts, run}
use Rattle.abstract_machine.proofs.Run.{run_goes, run_ends, run_cuts}
use Rattle.channel.specs.declared.Ccw.{Ccw}
use Rattle.channel.specs.declared.Location.{Location}
use Rattle.channel.specs.Ccw.{Lent}
use Rattle.channel.proofs.InChain.{InChain, FetchedIn, resolve_in, with_restart, resolve_local, walk_local, argument_local, argument_inside_local}
use Rattle.drive.specs.declared.Read.{Read}
use Rattle.drive.specs.declared.Command.{Command}
use Rattle.drive.specs.declared.Command.TheVariants.{NoOperation, Seek, SetMask, SetSector, SearchId, ReadHome, ReadRecord, SearchIdMultitrack, ReadMultitrack, Unlisted}
use Rattle.drive.specs.Drive.{Drive}
use Rattle.drive.specs.Command.{command_of}
use Rattle.drive.specs.Run.{limit_of}
use Rattle.drive.specs.Step as Step
use Rattle.drive.specs.Step.{State, Answer, DataArea, Setting}
use Rattle.drive.proofs.Multitrack.{reached_same}
use Rattle.drive.proofs.Origin.{step_stays}

abbrev pub with_program : Setting → List ℕ → List ℕ → Setting
with_program w program arguments = record { last = w.last; pack = w.pack; lent = with_restart w.lent program arguments }

module _ (w : Setting) (program arguments : List ℕ) where
  abbrev p : Lent
  p = w.lent

  abbrev q : Lent
  q = with_restart p program arguments

  sound_local : (l : Location) (size : ℕ) (c : Ccw) (k : Command) → InChain l → Step.sound q l size c k ≡ Step.sound p l size c k
  unfolding Step.sound
  sound_local l size c NoOperation h = refl
  sound_local l size c Unlisted h = refl
  sound_local l size c Seek h = rw (argument_inside_local p program arguments l c h)
  sound_local l size c SetMask h = rw (argument_inside_local p program arguments l c h)
  sound_local l size c SetSector h = rw (argument_inside_local p program arguments l c h)
  sound_local l size c SearchId h = rw (argument_inside_local p program arguments l c h)
  sound_local l size c ReadHome h = refl
  sound_local l size c (ReadRecord k) h = refl
  sound_local l size c SearchIdMultitrack h = rw (argument_inside_local p program arguments l c h)
  sound_local l size c (ReadMultitrack k) h = refl

  module _ (l : Location) (c : Ccw) (d : Drive) (st : List ℕ) (h : InChain l) where
    transfer_local : (bs : List ℕ) (a : DataArea) (e : Drive) → Step.plan_transfer l c d st q bs a e ≡ Step.plan_transfer l c d st p bs a e
    unfolding Step.plan_transfer
    transfer_local bs a e = rw (walk_local p program arguments (length st) (length bs) l c c.count c.address h)

    read_local : (k : Read) → Step.plan_read l c d st w.pack q k ≡ Step.plan_read l c d st w.pack p k
    unfolding Step.plan_read Step.plan_place Step.plan_record
    read_local k = found _ refl (λ t. choose _ (transfer_local _ _ _) refl)

  module _ (l : Location) (c : Ccw) (d : Drive) (st : List ℕ) (h : InChain l) where
    perform_local : (k : Command) → Step.perform (with_program w program arguments) l c d st k ≡ Step.perform w l c d st k
    unfolding Step.perform Step.plan_home Step.plan_read_multitrack
    perform_local NoOperation = refl
    perform_local Unlisted = refl
    perform_local Seek = rw (argument_local p program arguments l c h)
    perform_local SetMask = rw (argument_local p program arguments l c h)
    perform_local SetSector = rw (argument_local p program arguments l c h)
    perform_local SearchId = rw (argument_local p program arguments l c h)
    perform_local ReadHome = found _ refl (λ t. transfer_local l c d st h _ _ _)
    perform_local (ReadRecord k) = read_local l c d st h k
    perform_local SearchIdMultitrack = rw (argument_local p program arguments l c h)
    perform_local (ReadMultitrack k) = reached_same _ _ (λ e. read_local l c e st h k)

    pub execute_local : Step.execute (with_program w program arguments) l c d st ≡ Step.execute w l c d st
    unfolding Step.execute
    execute_local = rw (sound_local l (length st) c (command_of c.command) h) (choose _ (perform_local (command_of c.command)) refl)

  dispatch_local : (d : Drive) (st : List ℕ) (g : Result (Location × Ccw) Location) → FetchedIn g → Step.dispatch (with_program w program arguments) d st g ≡ Step.dispatch w d st g
  unfolding Step.dispatch
  dispatch_local d st (Err l) h = refl
  dispatch_local d st (Ok (l, c)) h = execute_local l c d st h

  pub plan_local : (s : State) → InChain s.at → Step.plan (with_program w program arguments) s ≡ Step.plan w s
  unfolding Step.plan
  plan_local s h =
      rw (resolve_local p program arguments s.last s.at h) (dispatch_local s.drive s.storage _ (resolve_in p s.last s.at h))

  pub step_local : (fs : List Fault) (s : State) → InChain s.at → Step.step fs (with_program w program arguments) s ≡ Step.step fs w s
  unfolding Step.step
  step_local fs s h = rw (plan_local s h)

module _ (fs : List Fault) (w : Setting) (program arguments : List ℕ) where
  abbrev other : State → Answer
  other = Step.step fs (with_program w program arguments)

  -- two runs whose first commands come to the same
  joined : (n : ℕ) → ((t : State) → InChain t.at → run other limit_of n t ≡ run (Step.step fs w) limit_of n t)
      → (r s : State) → other r ≡ Step.step fs w s → InChain s.at → run other limit_of (suc n) r ≡ run (Step.step fs w) limit_of (suc n) s
  joined n f r s same h = by (Step.step fs w s) refl
    where
      by : (a : Answer) → Step.step fs w s ≡ a → run other limit_of (suc n) r ≡ run (Step.step fs w) limit_of (suc n) s
      by (goes t) e = run_goes other limit_of n r t (same ∙ e) ∙ f t (step_stays fs w s t e h) ∙ sym (run_goes (Step.step fs w) limit_of n s t e)
      by (ends x) e = run_ends other limit_of n r x (same ∙ e) ∙ sym (run_ends (Step.step fs w) limit_of n s x e)
      by (cuts k) e = run_cuts other limit_of n r k (same ∙ e) ∙ sym (run_cuts (Step.step fs w) limit_of n s k e)

  pub run_local : (n : ℕ) (s : State) → InChain s.at → run (Step.step fs (with_program w program arguments)) limit_of n s ≡ run (Step.step fs w) limit_of n s
  unfolding run
  run_local zero s h = refl
  run_local (suc n) s h = joined n (run_local n) s s (step_local w program arguments fs s h) h

  pub run_joins : (n : ℕ) (r s : State) → Step.step fs (with_program w program arguments) r ≡ Step.step fs w s → InChain s.at
      → run (Step.step fs (with_program w program arguments)) limit_of (suc n) r ≡ run (Step.step fs w) limit_of (suc n) s
  run_joins n r s same h = joined n (run_local n) r s same h
