-- Demand 3's exception in document 02's words: `same_but_for_the_count`.
use Rattle.std.specs.Prelude.{Result, Ok, Err}
use Prim.Native.Nat.{ℕ, zero, suc}
use native.Mathlib.Omega.{arith}
use mathlib.Core.Path.{◌≡◌, refl, ap, sym}
use mathlib.Core.Bool.{Bool, true, false}
use mathlib.Core.Logic.{inl, inr}
use mathlib.Core.List.{List, []}
use lib.ListN.{length}
use Rattle.base.specs.Choice.{pick}
use Rattle.base.proofs.Choice.{both, either, split, and_left, and_right}
use Rattle.pack.specs.Pack.{Track}
use Rattle.abstract_machine.specs.Machine.{ends, ends_behind}
use Rattle.abstract_machine.proofs.Run.{LastTwo, last_two}
use Rattle.channel.specs.declared.Ccw.{Ccw}
use Rattle.channel.specs.declared.Location.{Location}
use Rattle.channel.specs.declared.Location.TheVariants.{Chain}
use Rattle.channel.specs.Ccw.{resolve}
use Rattle.channel.specs.Csw.{csw_at}
use Rattle.drive.specs.declared.Command.{Command}
use Rattle.drive.specs.declared.Command.TheVariants.{ReadMultitrack, NoOperation, ReadHome, ReadRecord, SearchId, SearchIdMultitrack, Seek, SetMask, SetSector, Unlisted}
use Rattle.drive.specs.Drive.{Drive}
use Rattle.drive.specs.Command.{command_of}
use Rattle.drive.specs.Step as Step
use Rattle.drive.specs.Step.{State, End, Check, Reached, reaches, fails, check_sense, Setting, plan, step}
use Rattle.drive.specs.Run.{limit_of, start}
use Rattle.drive.proofs.Multitrack.{reached_by, refused_at}
use Rattle.restart.specs.Restart.{is_multitrack_data}
use Rattle.restart.proofs.Join.{ReadsOn, reads_on, command_reads_on}
use Rattle.demand_three.specs.Demand.{Lending, setting_of, takes_faulted, is_failed, step_fails, ends_by_step, ends_at_count, at_count, end_of}
use Rattle.demand_three.specs.Exception.{StepCheck, past_the_last_head, by_the_mask, to_no_track, LastStep, SameButForTheCount}
use Rattle.demand_three.proofs.DemandThree.{runs}
use Rattle.demand_three.proofs.Mending.{checked_channel}

-- ---- by which checks a step fails

abbrev Steps : Reached → Type 0
Steps (reaches d) = Unit {0}
Steps (fails k) = StepCheck k

stepped_checks : (d : Drive) → Steps (Step.stepped d)
unfolding Step.stepped
stepped_checks d = both Steps _ (both Steps _ (by_the_mask _) tt) past_the_last_head

failed_is : (r : Reached) (k : Check) → Steps r → r ≡ fails k → StepCheck k
failed_is r k h q = rw q at h

read_checks : (pack : List Track) (n : ℕ) (d : Drive) → Steps (Step.read_from pack n d)
unfolding Step.read_from
read_checks pack zero d = past_the_last_head
read_checks pack (suc n) d = either Steps _ to_no_track (λ t. both Steps _ (further (read_checks pack n)) tt)
  where
    further : ((e : Drive) → Steps (Step.read_from pack n e)) → Steps (Step.on_reached (Step.stepped d) fails (Step.read_from pack n))
    further later = reached_by Steps (Step.stepped d) (λ k q. failed_is (Step.stepped d) k (stepped_checks d) q) (λ e q. later e)

take_checks : (pack : List Track) (just : Bool) (d : Drive) → Steps (Step.take_from pack just d)
unfolding Step.take_from
take_checks pack just d = both Steps _ tt (read_checks pack 19 d)

-- ---- the command that ends so

module _ (w : Setting) (l : Location) (c : Ccw) (d : Drive) (st : List ℕ) where
  perform_fails : (k : Check) → Step.take_from w.pack true d ≡ fails k → (x : Command) → ReadsOn x → Step.perform w l c d st x ≡ Step.refuse l c d st k
  unfolding Step.perform Step.plan_read_multitrack Step.on_reached
  perform_fails k q (ReadMultitrack x) reads_on = rw q
  perform_fails k q NoOperation x'' = elim x'' [ ]
  perform_fails k q Seek x3 = elim x3 [ ]
  perform_fails k q SetMask x4 = elim x4 [ ]
  perform_fails k q SetSector x5 = elim x5 [ ]
  perform_fails k q SearchId x6 = elim x6 [ ]
  perform_fails k q ReadHome x7 = elim x7 [ ]
  perform_fails k q (ReadRecord _) x9 = elim x9 [ ]
  perform_fails k q SearchIdMultitrack x9 = elim x9 [ ]
  perform_fails k q Unlisted x10 = elim x10 [ ]

  -- if it makes no program check
  sense_is : (e : End) (k : Check) → Step.take_from w.pack true d ≡ fails k → ReadsOn (command_of c.command)
      → (e.csw.channel ≡ 0x20 → ⊥) → Step.carry [] st (Step.execute w l c d st) ≡ ends e → e.sense ≡ check_sense k
  unfolding Step.carry Step.execute Step.refuse Step.refusal pick
  sense_is e k q reads good is =
      split (Step.sound w.lent l (length st) c (command_of c.command))
      (λ ok.
      let v : ◌≡◌ {A = Step.Answer} (ends (refused_at k l c d st)) (ends e) = rw (ok, perform_fails k q (command_of c.command) reads) at is in
      let u : refused_at k l c d st ≡ e = cc in ap (λ (x : End). x.sense) (sym u))
      (λ bad. let v : Step.program_check l d st ≡ ends e = rw bad at is in absurd (good (checked_channel l d st e v)))

module _ (g : Lending) (e : End) (good : e.csw.channel ≡ 0x20 → ⊥) (t : LastTwo (step [] (setting_of g)) (takes_faulted g) (ends_by_step (setting_of g)) e) where
  abbrev w : Setting
  w = setting_of g

  abbrev s : State
  s = t.second

  marked : (f : Result (Location × Ccw) Location) → resolve w.lent s.last s.at ≡ f → step_fails w s.drive f ≡ true
  unfolding ends_by_step
  marked f q = rw q at t.marked_second

  carried : (l : Location) (c : Ccw) → resolve w.lent s.last s.at ≡ Ok (l, c) → Step.carry [] s.storage (Step.execute w l c s.drive s.storage) ≡ ends e
  unfolding step plan Step.dispatch
  carried l c q = rw q at t.ends_it

  last_step : LastStep g e
  unfolding step_fails is_failed
  last_step = by (resolve w.lent s.last s.at) refl (Step.take_from w.pack true s.drive) refl
    where
      by : (f : Result (Location × Ccw) Location) → resolve w.lent s.last s.at ≡ f → (r : Reached) → Step.take_from w.pack true s.drive ≡ r → LastStep g e
      by (Err l) q r z = let v = marked (Err l) q in let x : ◌≡◌ {A = ℕ} 0 1 = cc in absurd (omega arith)
      by (Ok (l, c)) q (reaches y) z =
          let v : false ≡ true = rw z at (and_right (is_multitrack_data c.command) _ (marked (Ok (l, c)) q)) in
          let x : ◌≡◌ {A = ℕ} 0 1 = cc in absurd (omega arith)
      by (Ok (l, c)) q (fails k) z =
          let code = and_left (is_multitrack_data c.command) _ (marked (Ok (l, c)) q) in
          record {
            before = t.first;
            last = s;
            place = l;
            ccw = c;
            check = k;
            faulted = t.marked_first;
            goes_on = t.goes_on;
            comes = q;
            code = code;
            ends_it = t.ends_it;
            by_step = failed_is _ k (take_checks w.pack true s.drive) z;
            sensed = sense_is w l c s.drive s.storage e k z (command_reads_on c.command code) good (carried l c q);
          }

pub same_but_for_the_count : SameButForTheCount
unfolding end_of at_count ends_at_count csw_at pick
same_but_for_the_count g e b p =
    split (ends_behind (step [] (setting_of g)) (takes_faulted g) (ends_by_step (setting_of g)) false g.limit (start (Chain 0) g.storage))
    (λ q.
    let t = last_two (step [] (setting_of g)) (takes_faulted g) (ends_by_step (setting_of g)) limit_of g.limit (start (Chain 0) g.storage) e (runs g e b p) q in
    record {
      same_storage = rw q;
      same_sense = rw q;
      same_unit = rw q;
      same_channel = rw q;
      same_csw = inr (last_step g e p.sound t, rw q);
    })
    (λ q. record { same_storage = rw q; same_sense = rw q; same_unit = rw q; same_channel = rw q; same_csw = inl (rw q) })
