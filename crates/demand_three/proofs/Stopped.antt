-- What can stop a reading: `stopped_by_two_or_nine`. The sense of a cut comes to action 5 and has format 53, so recovery answers question 9, action 2, or a
-- recovery, whatever the cut was.
use Rattle.std.specs.Prelude.{Option, Result, Ok, Err}
use Prim.Native.Nat.{ℕ}
use native.Mathlib.Omega.{arith}
use mathlib.Core.Path.{◌≡◌, refl}
use mathlib.Core.Logic.{inl, inr}
use mathlib.Core.Bool.{Bool, true, false}
use mathlib.Core.List.{List}
use lib.ListN.{get_or}
use Rattle.base.proofs.Choice.{both, both_if, either}
use Rattle.questions.specs.declared.Question.TheVariants.{Agreement}
use Rattle.abstract_machine.specs.Reading.{stop}
use Rattle.abstract_machine.proofs.Stops.{stopped_by}
use Rattle.channel.specs.declared.Ccw.{Ccw}
use Rattle.channel.specs.declared.Csw.{Csw}
use Rattle.channel.specs.declared.Location.{Location}
use Rattle.channel.specs.declared.Location.TheVariants.{Chain, Restart}
use Rattle.channel.specs.Walk.{Walk, walked, checked}
use Rattle.drive.specs.Step.{Cut}
use Rattle.recovery.specs.Table.{rows}
use Rattle.recovery.specs.Report.{Report}
use Rattle.recovery.specs.Recovery as Recovery
use Rattle.recovery.specs.Recovery.{Recovery, Kind, Given, on_next, search_restart, after_walk, walked_to, action_five}
use Rattle.demand_three.specs.WholeReading.{Stopped, report_of, answered, recover_cut, restarted_run, final, given_in, whole_reading}
use Rattle.demand_three.specs.Stopped.{TwoOrNine, StoppedByTwoOrNine}
use Rattle.demand_three.proofs.Genuine.{to_five, format_is}

-- ---- what action 5 answers, where the format is 53

data FiveAnswer : Recovery → Type 0 where
  nine : FiveAnswer (Recovery.refused Agreement)
  two : FiveAnswer Recovery.action_two
  corrects : {st : List ℕ} → FiveAnswer (Recovery.corrected_only st)
  finishes : {w : Csw} {st : List ℕ} → FiveAnswer (Recovery.finished w st)
  restarts : {kind : Kind} {p a st : List ℕ} → FiveAnswer (Recovery.restarts kind p a st)

module _ (g : Given) (r : Report) (st : List ℕ) where
  search_answers : (ps : List (Option ℕ)) (to : ℕ) (c : Ccw) → FiveAnswer (search_restart g r st ps to c)
  unfolding search_restart
  search_answers ps to c = both FiveAnswer _ restarts two

  next_answers : (ps : List (Option ℕ)) (f : Result (Location × Ccw) Location) → FiveAnswer (on_next f (Recovery.refused Agreement) (search_restart g r st ps))
  unfolding on_next
  next_answers ps (Err l) = nine
  next_answers ps (Ok (Restart a, c)) = nine
  next_answers ps (Ok (Chain a, c)) = search_answers ps a c

  after_answers : (ps : List (Option ℕ)) (l : Location) (c : Ccw) (wrong : Bool) → FiveAnswer (after_walk g r st ps l c wrong)
  unfolding after_walk
  after_answers ps l c wrong = both FiveAnswer _ corrects (both FiveAnswer _ finishes (next_answers ps _))

  walk_answers : (v : Walk) → FiveAnswer (walked_to g r st v)
  unfolding walked_to
  walk_answers (checked ps l) = nine
  walk_answers (walked ps l c left over) = both FiveAnswer _ (after_answers ps l c _) nine

  five_answers : get_or r.sense 7 0 ≡ 0x53 → FiveAnswer (action_five g r st)
  unfolding action_five
  five_answers h =
      both_if FiveAnswer _ (λ q. either FiveAnswer _ nine (λ c. both FiveAnswer _ (walk_answers _) nine))
      (λ q. let v : true ≡ false = rw h at q in let z : ◌≡◌ {A = ℕ} 0 1 = cc in absurd (omega arith))

-- ---- at a cut

stops_with : (k : Cut) (a : Recovery) → FiveAnswer a → (n : Stopped) → answered k a ≡ stop n → TwoOrNine n
unfolding answered
stops_with k a nine n e = inr (cc)
stops_with k a two n e = inl (cc)
stops_with k a corrects n e = let z : ◌≡◌ {A = ℕ} 0 1 = cc in absurd (omega arith)
stops_with k a finishes n e = let z : ◌≡◌ {A = ℕ} 0 1 = cc in absurd (omega arith)
stops_with k a restarts n e = let z : ◌≡◌ {A = ℕ} 0 1 = cc in absurd (omega arith)

cut_stops : (g : Given) → g.rows ≡ rows → (k : Cut) (n : Stopped) → recover_cut g k ≡ stop n → TwoOrNine n
unfolding recover_cut
cut_stops g rows_are k n e = stops_with k _ (rw (to_five k g rows_are k.storage) (five_answers g (report_of k) k.storage (format_is k))) n e

-- ---- in a reading

pub stopped_by_two_or_nine : StoppedByTwoOrNine
unfolding whole_reading given_in
stopped_by_two_or_nine fs w x limit st g n k e =
    stopped_by (restarted_run fs w) (recover_cut (given_in w rows x)) final TwoOrNine (cut_stops (given_in w rows x) refl) limit _ _ g n k e
