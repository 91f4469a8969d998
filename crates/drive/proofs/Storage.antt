-- "Only reads write storage.": `only_reads_write`.
use Rattle.std.specs.Prelude.{Result, Ok, Err}
use Prim.Native.Nat.{ℕ}
use native.Mathlib.Omega.{arith}
use mathlib.Core.Path.{◌≡◌, refl}
use mathlib.Core.Bool.{false}
use mathlib.Core.List.{List}
use Rattle.base.proofs.Choice.{both, either}
use Rattle.pack.specs.Pack.{Track}
use Rattle.faults.specs.Faults.{Fault}
use Rattle.channel.specs.declared.Ccw.{Ccw}
use Rattle.channel.specs.declared.Location.{Location}
use Rattle.channel.specs.Ccw.{resolve, next}
use Rattle.drive.specs.declared.Command.{Command}
use Rattle.drive.specs.declared.Command.TheVariants.{NoOperation, Seek, SetMask, SetSector, SearchId, ReadHome, ReadRecord, SearchIdMultitrack, ReadMultitrack, Unlisted}
use Rattle.drive.specs.Drive.{Drive}
use Rattle.drive.specs.Command.{command_of}
use Rattle.drive.specs.Step as Step
use Rattle.drive.specs.Step.{Check, Plan, Setting}
use Rattle.drive.proofs.Multitrack.{reached_by}
use Rattle.drive.specs.Storage.{is_read, reads_next, storage_behind, OnlyReadsWrite}

module _ (fs : List Fault) (st : List ℕ) where
  -- a plan that leaves storage as it is
  abbrev Keeps : Plan → Type 0
  Keeps p = storage_behind (Step.carry fs st p) ≡ st

  module _ (l : Location) (c : Ccw) (d : Drive) where
    checks : Keeps (Step.answer (Step.program_check l d st))
    unfolding Step.carry Step.program_check storage_behind
    checks = refl

    refuses : (k : Check) → Keeps (Step.refuse l c d st k)
    unfolding Step.carry Step.refuse Step.refusal storage_behind
    refuses k = refl

    goes_on : (to : Location) (left : ℕ) (e : Drive) → Keeps (Step.answer (Step.onward l to c left e st))
    unfolding Step.carry Step.onward storage_behind
    goes_on to left e = both (λ a. storage_behind a ≡ st) _ refl refl

    is_done : (to : Location) (e : Drive) → Keeps (Step.done l c d st to e)
    unfolding Step.done
    is_done to e = goes_on to 0 e

    counts : (n : ℕ) (p : Plan) → Keeps p → Keeps (Step.counted l c d st n p)
    unfolding Step.counted
    counts n p h = both Keeps _ h (refuses Step.rejected)

    searches : (pack : List Track) (g : List ℕ) → Keeps (Step.plan_search l c d st pack g)
    unfolding Step.plan_search Step.examine
    searches pack g = either Keeps _ (refuses Step.not_found) (λ t. both Keeps _ (refuses Step.not_found) (both Keeps _ (is_done _ _) (is_done _ _)))

  module _ (l : Location) (c : Ccw) (d : Drive) where
    performs : (w : Setting) (k : Command) → is_read k ≡ false → Keeps (Step.perform w l c d st k)
    unfolding Step.perform Step.plan_no_operation Step.plan_seek Step.plan_mask Step.plan_sector Step.plan_search_multitrack is_read
    performs w NoOperation h = both Keeps _ (refuses l c d Step.rejected) (goes_on l c d (next l) c.count _)
    performs w Unlisted h = refuses l c d Step.rejected
    performs w Seek h = counts l c d 6 _ (both Keeps _ (both Keeps _ (refuses l c d Step.protected) (is_done l c d _ _)) (refuses l c d Step.rejected))
    performs w SetMask h = counts l c d 1 _ (both Keeps _ (is_done l c d _ _) (refuses l c d Step.rejected))
    performs w SetSector h = counts l c d 1 _ (both Keeps _ (is_done l c d _ _) (refuses l c d Step.rejected))
    performs w SearchId h = counts l c d 5 _ (searches l c d w.pack _)
    performs w ReadHome h = let z : ◌≡◌ {A = ℕ} 0 1 = cc in absurd (omega arith)
    performs w (ReadRecord k) h = let z : ◌≡◌ {A = ℕ} 0 1 = cc in absurd (omega arith)
    performs w SearchIdMultitrack h =
        counts l c d 5 _ (reached_by Keeps _ (λ k q. refuses l c d k) (λ e q. searches l c e w.pack _))
    performs w (ReadMultitrack k) h = let z : ◌≡◌ {A = ℕ} 0 1 = cc in absurd (omega arith)

  dispatches : (w : Setting) (d : Drive) (f : Result (Location × Ccw) Location) → reads_next f ≡ false → Keeps (Step.dispatch w d st f)
  unfolding Step.dispatch Step.execute reads_next
  dispatches w d (Err l) h = checks l (record { command = 0; address = 0; flags = 0; count = 0 }) d
  dispatches w d (Ok (l, c)) h = both Keeps _ (performs l c d w (command_of c.command) h) (checks l c d)

pub only_reads_write : OnlyReadsWrite
unfolding Step.step Step.plan
only_reads_write fs w s h = dispatches fs s.storage w s.drive (resolve w.lent s.last s.at) h
