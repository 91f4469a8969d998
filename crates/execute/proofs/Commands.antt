-- One command, from the tests that the code makes.
--   other_single, single_sound         single-track forms; they make the same program checks
--   reads_record                       a read of a record that is one, on one track or over several
--   other_moveless                     the commands that are no read
--   search-rejected .. other-reaches   where a command is done
--   home_ready, record_ready           a read without program check may use its CCW
--   argument_there                     a command without program check has its argument
--   unchecked .. performed             by whether it makes a program check
--   home-performs .. other-performs    by the command
--   failed_performs, reached_performs  by where it is done
--   broken-low .. got                  by the CCW that was fetched
use Rattle.std.specs.Prelude.{Ok, Err}
use Prim.Native.Nat.{ℕ}
use native.Mathlib.Omega.{arith}
use mathlib.Core.Path.{◌≡◌, refl, ap, sym, subst, ◌∙◌}
use mathlib.Core.Bool.{Bool, true, false, ◌&&◌, not}
use mathlib.Core.List.{List, [], ◌∷◌}
use mathlib.Core.Logic.{inl, inr}
use lib.Dec.{eqb}
use lib.ListN.{length}
use types.Run.{OneOf}
use denote.Enum.Declared
use Rattle.base.proofs.Choice.{pick_true, pick_false}
use Rattle.pack.specs.Pack.{pack_of}
use Rattle.channel.specs.declared.Ccw.{Ccw}
use Rattle.channel.specs.declared.Location.{Location}
use Rattle.channel.specs.Ccw.{Lent, chains_data}
use Rattle.channel.specs.Fetch.{Resolves}
use Rattle.channel.specs.Walk.{readable}
use Rattle.channel.proofs.Shown.{Shown, resolve_shown, fetched_inside}
use Rattle.drive.specs.declared.Read.{Read}
use Rattle.drive.specs.declared.Command.{Command}
use Rattle.drive.specs.declared.Command.TheVariants.{NoOperation, Seek, SetMask, SetSector, SearchId, ReadHome, ReadRecord, SearchIdMultitrack, ReadMultitrack, Unlisted}
use Rattle.drive.specs.Command.{command_of}
use Rattle.drive.specs.Arguments.{Sounds, ArgumentIn}
use Rattle.drive.specs.Drive as Abstract
use Rattle.drive.specs.Step as Step
use Rattle.drive.specs.contracts.Command as CommandType
use Rattle.drive.proofs.Multitrack.{reached_same}
use Rattle.position.specs.declared.Drive.{Drive}
use Rattle.position.specs.Standing.{drive_of}
use Rattle.command.specs.declared.State.{State}
use Rattle.command.specs.declared.Answer.{Answer}
use Rattle.location.specs.Low.{Low}
use Rattle.command.specs.Answer.{Answers, setting_with, lent_of}
use Rattle.heads.specs.declared.Reached.{Reached}
use Rattle.heads.specs.declared.Reached.TheVariants.{Reaches}
use Rattle.heads.specs.Reached.{reached_of}
use Rattle.read_bytes.specs.Bytes.{ReadsRecord}
use Rattle.control.specs.Control.{moveless, argues}
use Rattle.control.proofs.Plans.{argument_in}
use Rattle.control.specs.Control as Control
use Rattle.read_command.specs.Reads.{Short, Ready, Carries, record_plan, Homes}
use Rattle.execute.specs.Executes.{Steps, Executes, InArea, Unchecked, Performs, single_track, ReachesFor}
use Rattle.read_command.proofs.Moves.{inside_low}

-- ---- single-track forms

-- neither of the tags of multitrack commands
no_multitrack : (x : ℕ) → OneOf (0 ∷ 1 ∷ 2 ∷ 3 ∷ 4 ∷ 5 ∷ 6 ∷ 9 ∷ []) x → (x ≡ 7 → ⊥) × (x ≡ 8 → ⊥)
no_multitrack x (inl e) = (λ f. omega arith, λ f. omega arith)
no_multitrack x (inr (inl e)) = (λ f. omega arith, λ f. omega arith)
no_multitrack x (inr (inr (inl e))) = (λ f. omega arith, λ f. omega arith)
no_multitrack x (inr (inr (inr (inl e)))) = (λ f. omega arith, λ f. omega arith)
no_multitrack x (inr (inr (inr (inr (inl e))))) = (λ f. omega arith, λ f. omega arith)
no_multitrack x (inr (inr (inr (inr (inr (inl e)))))) = (λ f. omega arith, λ f. omega arith)
no_multitrack x (inr (inr (inr (inr (inr (inr (inl e))))))) = (λ f. omega arith, λ f. omega arith)
no_multitrack x (inr (inr (inr (inr (inr (inr (inr e))))))) = (λ f. omega arith, λ f. omega arith)

pub other_single : (k : Command) → OneOf (0 ∷ 1 ∷ 2 ∷ 3 ∷ 4 ∷ 5 ∷ 6 ∷ 9 ∷ []) (Declared.tag_of CommandType.the_type k) → k ≡ single_track k
unfolding single_track
other_single NoOperation h = refl
other_single Seek h = refl
other_single SetMask h = refl
other_single SetSector h = refl
other_single SearchId h = refl
other_single ReadHome h = refl
other_single (ReadRecord k) h = refl
other_single SearchIdMultitrack h = absurd ((no_multitrack 7 h).0 refl)
other_single (ReadMultitrack k) h = absurd ((no_multitrack 8 h).1 refl)
other_single Unlisted h = refl

pub single_sound : (p : Lent) (l : Location) (size : ℕ) (c : Ccw) (k : Command) → Step.sound p l size c k ≡ true → Step.sound p l size c (single_track k) ≡ true
unfolding single_track Step.sound
single_sound p l size c NoOperation h = h
single_sound p l size c Seek h = h
single_sound p l size c SetMask h = h
single_sound p l size c SetSector h = h
single_sound p l size c SearchId h = h
single_sound p l size c ReadHome h = h
single_sound p l size c (ReadRecord k) h = h
single_sound p l size c SearchIdMultitrack h = h
single_sound p l size c (ReadMultitrack k) h = h
single_sound p l size c Unlisted h = h

pub reads_record : (code : ℕ) (r : Read) → ReadRecord r ≡ single_track (command_of code) → ReadsRecord code r
unfolding single_track
reads_record code r e = by (command_of code) refl
  where
    by : (k : Command) → command_of code ≡ k → ReadsRecord code r
    by (ReadRecord m) q = let z : ◌≡◌ {A = Command} (ReadRecord r) (ReadRecord m) = rw q at e in let same : r ≡ m = cc in inl (rw same q)
    by (ReadMultitrack m) q = let z : ◌≡◌ {A = Command} (ReadRecord r) (ReadRecord m) = rw q at e in let same : r ≡ m = cc in inr (rw same q)
    by NoOperation q = let z : ◌≡◌ {A = Command} (ReadRecord r) NoOperation = rw q at e in let x : ◌≡◌ {A = ℕ} 0 1 = cc in absurd (omega arith)
    by Seek q = let z : ◌≡◌ {A = Command} (ReadRecord r) Seek = rw q at e in let x : ◌≡◌ {A = ℕ} 0 1 = cc in absurd (omega arith)
    by SetMask q = let z : ◌≡◌ {A = Command} (ReadRecord r) SetMask = rw q at e in let x : ◌≡◌ {A = ℕ} 0 1 = cc in absurd (omega arith)
    by SetSector q = let z : ◌≡◌ {A = Command} (ReadRecord r) SetSector = rw q at e in let x : ◌≡◌ {A = ℕ} 0 1 = cc in absurd (omega arith)
    by SearchId q = let z : ◌≡◌ {A = Command} (ReadRecord r) SearchId = rw q at e in let x : ◌≡◌ {A = ℕ} 0 1 = cc in absurd (omega arith)
    by SearchIdMultitrack q = let z : ◌≡◌ {A = Command} (ReadRecord r) SearchId = rw q at e in let x : ◌≡◌ {A = ℕ} 0 1 = cc in absurd (omega arith)
    by ReadHome q = let z : ◌≡◌ {A = Command} (ReadRecord r) ReadHome = rw q at e in let x : ◌≡◌ {A = ℕ} 0 1 = cc in absurd (omega arith)
    by Unlisted q = let z : ◌≡◌ {A = Command} (ReadRecord r) Unlisted = rw q at e in let x : ◌≡◌ {A = ℕ} 0 1 = cc in absurd (omega arith)

-- a read's tag is none of the others'
no_read : (x : ℕ) → OneOf (0 ∷ 1 ∷ 2 ∷ 3 ∷ 4 ∷ 7 ∷ 8 ∷ 9 ∷ []) x → (x ≡ 5 → ⊥) × (x ≡ 6 → ⊥)
no_read x (inl e) = (λ f. omega arith, λ f. omega arith)
no_read x (inr (inl e)) = (λ f. omega arith, λ f. omega arith)
no_read x (inr (inr (inl e))) = (λ f. omega arith, λ f. omega arith)
no_read x (inr (inr (inr (inl e)))) = (λ f. omega arith, λ f. omega arith)
no_read x (inr (inr (inr (inr (inl e))))) = (λ f. omega arith, λ f. omega arith)
no_read x (inr (inr (inr (inr (inr (inl e)))))) = (λ f. omega arith, λ f. omega arith)
no_read x (inr (inr (inr (inr (inr (inr (inl e))))))) = (λ f. omega arith, λ f. omega arith)
no_read x (inr (inr (inr (inr (inr (inr (inr e))))))) = (λ f. omega arith, λ f. omega arith)

pub other_moveless : (y : Command) → OneOf (0 ∷ 1 ∷ 2 ∷ 3 ∷ 4 ∷ 7 ∷ 8 ∷ 9 ∷ []) (Declared.tag_of CommandType.the_type (single_track y)) → moveless (single_track y) ≡ true
unfolding single_track moveless
other_moveless NoOperation h = refl
other_moveless Seek h = refl
other_moveless SetMask h = refl
other_moveless SetSector h = refl
other_moveless SearchId h = refl
other_moveless SearchIdMultitrack h = refl
other_moveless Unlisted h = refl
other_moveless ReadHome h = absurd ((no_read 5 h).0 refl)
other_moveless (ReadRecord k) h = absurd ((no_read 6 h).1 refl)
other_moveless (ReadMultitrack k) h = absurd ((no_read 6 h).1 refl)

-- ---- where a command is done

module _ (image : List ℕ) (c : Ccw) (d : Drive) where
  -- a search that is rejected, whatever the drive
  pub search_rejected : {k : Command} → k ≡ SearchIdMultitrack → (eqb c.count 5 && not (chains_data c)) ≡ false → ReachesFor image c k (drive_of d) (Reaches d)
  unfolding Step.perform Step.counted Step.on_reached single_track
  search_rejected e h = λ last p l st. rw e (pick_false _ _ h ∙ sym (pick_false _ _ h))

  pub search_reaches : {k : Command} (r : Reached) → k ≡ SearchIdMultitrack → (eqb c.count 5 && not (chains_data c)) ≡ true
      → reached_of r ≡ Step.search_from (pack_of image) (drive_of d) → ReachesFor image c k (drive_of d) r
  unfolding Step.perform Step.counted Step.plan_search_multitrack single_track
  search_reaches r e h at_r = λ last p l st.
      rw (e, ← at_r) (pick_true _ _ h ∙ reached_same _ _ (λ x. sym (pick_true _ _ h)))

  pub read_reaches : {k : Command} (m : Read) (r : Reached) → k ≡ ReadMultitrack m → reached_of r ≡ Step.take_from (pack_of image) m.just (drive_of d)
      → ReachesFor image c k (drive_of d) r
  unfolding Step.perform Step.plan_read_multitrack single_track
  read_reaches m r e at_r = λ last p l st. rw (e, ← at_r) refl

  pub other_reaches : {k : Command} → k ≡ single_track k → ReachesFor image c k (drive_of d) (Reaches d)
  unfolding Step.on_reached
  other_reaches e = λ last p l st. ap (Step.perform (setting_with last p image) l c (drive_of d) st) e

module _ (chain arguments program restart_arguments : List ℕ) where
  abbrev p : Lent
  p = lent_of chain arguments program restart_arguments

  -- ---- by whether it makes a program check

  module _ (l : Location) (c : Ccw) (st : List ℕ) (k : Command) where
    ready_with : readable (length st) c ≡ true → Short chain program → InArea chain program l c → Ready chain program st l c
    ready_with range s i = record { inside = i.inside; bytes = i.bytes; range = range; short = s }

    pub home_ready : k ≡ ReadHome → Short chain program → InArea chain program l c → Unchecked chain arguments program restart_arguments st l c k → Ready chain program st l c
    unfolding Step.sound
    home_ready e s i u = ready_with (rw e at u) s i

    pub record_ready : (m : Read) → k ≡ ReadRecord m → Short chain program → InArea chain program l c → Unchecked chain arguments program restart_arguments st l c k
        → Ready chain program st l c
    unfolding Step.sound
    record_ready m e s i u = ready_with (rw e at u) s i

    pub argument_there : Unchecked chain arguments program restart_arguments st l c k → argues k ≡ true → ArgumentIn arguments restart_arguments l c
    argument_there u = argument_in p l (length st) c k u

    module _ (b : Bool) (e : k ≡ command_of c.command) (s : Sounds (length arguments) (length restart_arguments) l (length st) c k b) where
      sound_is : b ≡ Step.sound p l (length st) c (command_of c.command)
      sound_is = s p refl refl ∙ ap (λ q. Step.sound p l (length st) c q) e

      pub unchecked : b ≡ true → Unchecked chain arguments program restart_arguments st l c k
      unchecked h = sym (s p refl refl) ∙ h

      module _ (last : ℕ) (image faults : List ℕ) (d : Abstract.Drive) (r : Answer) where
        pub checked : b ≡ false → Answers (Step.program_check l d) r → Executes last chain arguments program restart_arguments image faults l c d st r st
        unfolding Step.execute Step.carry
        checked h a = λ fs f. ap (Step.carry fs st) (pick_false _ _ (sym sound_is ∙ h)) ∙ a st

        pub performed : (after : List ℕ) → b ≡ true → Performs last chain arguments program restart_arguments image faults l c k d st r after
            → Executes last chain arguments program restart_arguments image faults l c d st r after
        unfolding Step.execute
        performed after h q = λ fs f.
            ap (Step.carry fs st) (pick_true _ _ (sym sound_is ∙ h) ∙ ap (Step.perform (setting_with last p image) l c d st) (sym e)) ∙ q fs f

  -- ---- by the command

  module _ (last : ℕ) (image faults : List ℕ) (l : Location) (c : Ccw) (k : Command) (st : List ℕ) (r : Answer) where
    abbrev w : Step.Setting
    w = setting_with last p image

    module _ (d : Abstract.Drive) where
      pub home_performs : (after : List ℕ) → k ≡ ReadHome → Homes chain program l c d image st r after
          → Performs last chain arguments program restart_arguments image faults l c k d st r after
      unfolding Step.perform
      home_performs after e h = λ fs f. ap (λ q. Step.carry fs st (Step.perform w l c d st q)) e ∙ h p fs refl refl

      pub record_performs : (after : List ℕ) (m : Read) → k ≡ ReadRecord m → Carries chain program faults st (record_plan l c d st image m) r after
          → Performs last chain arguments program restart_arguments image faults l c k d st r after
      unfolding Step.perform
      record_performs after m e h = λ fs f. ap (λ q. Step.carry fs st (Step.perform w l c d st q)) e ∙ h p fs refl refl f

      pub other_performs : Control.Performs last arguments restart_arguments image l c k d r → Performs last chain arguments program restart_arguments image faults l c k d st r st
      unfolding Step.carry
      other_performs h = λ fs f. ap (Step.carry fs st) (h p st refl refl)

    -- ---- by where it is done

    module _ (d : Drive) where
      pub failed_performs : (t : Reached) (x : Step.Check) → reached_of t ≡ Step.fails x → ReachesFor image c k (drive_of d) t
          → Answers (Step.refusal x l c (drive_of d)) r
          → Performs last chain arguments program restart_arguments image faults l c k (drive_of d) st r st
      unfolding Step.on_reached Step.refuse Step.carry
      failed_performs t x e reach a = λ fs f. ap (Step.carry fs st) (rw e at (reach last p l st)) ∙ a st

      pub reached_performs : (e : Drive) (after : List ℕ) → ReachesFor image c k (drive_of d) (Reaches e)
          → Performs last chain arguments program restart_arguments image faults l c (single_track k) (drive_of e) st r after
          → Performs last chain arguments program restart_arguments image faults l c k (drive_of d) st r after
      unfolding Step.on_reached
      reached_performs e after reach h = λ fs f. ap (Step.carry fs st) (reach last p l st) ∙ h fs f

  -- ---- by what was fetched

  module _ (s : State) where
    pub broken_low : (l : Location) → Short chain program → Low s.last → Resolves chain program s.last s.at (Err l) → Low l
    broken_low l h low e =
        subst (Shown Low) (sym (e p refl refl)) (resolve_shown Low p (λ k c f. inside_low chain program h k (fetched_inside p k c f)) s.last s.at low)

    module _ (last : ℕ) (image faults st : List ℕ) (r : Answer) where
      pub broken : (l : Location) → Resolves chain program s.last s.at (Err l) → Answers (Step.program_check l (drive_of s.drive)) r
          → Steps last chain arguments program restart_arguments image faults s st r st
      unfolding Step.step Step.plan Step.dispatch Step.carry
      broken l e a = λ fs f. ap (λ q. Step.carry fs st (Step.dispatch (setting_with last p image) (drive_of s.drive) st q)) (sym (e p refl refl)) ∙ a st

      pub got : (l : Location) (c : Ccw) (after : List ℕ) → Resolves chain program s.last s.at (Ok (l, c))
          → Executes last chain arguments program restart_arguments image faults l c (drive_of s.drive) st r after → Steps last chain arguments program restart_arguments image faults s st r after
      unfolding Step.step Step.plan Step.dispatch
      got l c after e a = λ fs f. ap (λ q. Step.carry fs st (Step.dispatch (setting_with last p image) (drive_of s.drive) st q)) (sym (e p refl refl)) ∙ a fs f
