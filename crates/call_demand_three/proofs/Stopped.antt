-- What can stop a reading, of the code: `call_stopped_by_two_or_nine`.
use Rattle.std.specs.Prelude.{Ok, Err}
use Prim.Native.Nat.{ℕ}
use native.Mathlib.Omega.{arith}
use mathlib.Core.Path.{◌≡◌, refl, ap, ◌∙◌}
use mathlib.Core.Logic.{◌⊎◌, inl, inr, ⊎_elim}
use mathlib.Core.List.{List}
use Rattle.base.proofs.Choice.{both, either}
use Rattle.questions.specs.declared.Question.{Question}
use Rattle.questions.specs.declared.Question.TheVariants.{Agreement}
use Rattle.questions.specs.Number.{number_of}
use Rattle.abstract_machine.specs.Reading.{Log, ends, limited, exhausted, stops}
use Rattle.channel.specs.declared.Csw.{Csw}
use Rattle.drive.specs.Step.{Cut}
use Rattle.demand_three.specs.WholeReading.{Restarted, Entry, Stopped, Whole}
use Rattle.demand_three.specs.Stopped.{TwoOrNine}
use Rattle.demand_three.proofs.Stopped.{stopped_by_two_or_nine}
use Rattle.reading_cut.specs.Entry.{stopped_number}
use Rattle.reading_runs.specs.declared.How.{How}
use Rattle.reading_runs.specs.declared.How.TheVariants.{Ended, Limited, Stop}
use Rattle.reading_runs.specs.declared.Over as Code
use Rattle.reading_runs.specs.Conclusion.{Conclusion, leaving, over, concluded}
use Rattle.whole_reading.specs.Reading.{reading_call}
use Rattle.call_demand_three.specs.Stopped.{CallStoppedByTwoOrNine}

abbrev Number : ℕ → Type 0
Number m = (m ≡ 2) ⊎ (m ≡ number_of Agreement)

number_of_lem : (n : Stopped) → TwoOrNine n → Number (stopped_number n)
unfolding stopped_number
number_of_lem n h = ⊎_elim (λ e. inl (ap stopped_number e)) (λ e. inr (ap stopped_number e)) h

-- a conclusion that is "stopped", if at all, with such a number
Allowed : Conclusion → Type 0
Allowed c = (o : Code.Over) (m : ℕ) → c.answer ≡ Ok o → o.how ≡ Stop m → Number m

module _ (p a l : List ℕ) where
  refused_allowed : (q : Question) (st : List ℕ) → Allowed (leaving (Err q) st p a l)
  unfolding Allowed
  refused_allowed q st o m e h = let z : ◌≡◌ {A = ℕ} 0 1 = cc in absurd (omega arith)

  over_allowed : (g : Log Entry Restarted) (h : How) (w : Csw) (st : List ℕ) → ((m : ℕ) → h ≡ Stop m → Number m) → Allowed (over g h w st p a l)
  unfolding Allowed over
  over_allowed g h w st f o m e q = let same : h ≡ o.how = cc in f m (same ∙ q)

  concluded_allowed : (q : Whole) → ((g : Log Entry Restarted) (n : Stopped) (k : Cut) → q ≡ stops g n k → TwoOrNine n) → Allowed (concluded q p a l)
  unfolding concluded
  concluded_allowed (ends g f) h = over_allowed g Ended _ _ (λ m e. let z : ◌≡◌ {A = ℕ} 0 1 = cc in absurd (omega arith))
  concluded_allowed (limited g s) h = over_allowed g Limited _ _ (λ m e. let z : ◌≡◌ {A = ℕ} 0 1 = cc in absurd (omega arith))
  concluded_allowed (exhausted g k) h = over_allowed g Limited _ _ (λ m e. let z : ◌≡◌ {A = ℕ} 0 1 = cc in absurd (omega arith))
  concluded_allowed (stops g n k) h =
      over_allowed g (Stop (stopped_number n)) _ _ (λ m e. let same : stopped_number n ≡ m = cc in rw (← same) (number_of_lem n (h g n k refl)))

pub call_stopped_by_two_or_nine : CallStoppedByTwoOrNine
unfolding reading_call Allowed
call_stopped_by_two_or_nine model chain arguments st image faults extent n p a l = allowed
  where
    no : (q : Question) → Allowed (leaving (Err q) st p a l)
    no q = refused_allowed p a l q st

    allowed : Allowed (reading_call model chain arguments st image faults extent n p a l)
    allowed =
        both Allowed _ (both Allowed _ (either Allowed _ (no _)
        (λ fs. both Allowed _ (both Allowed _ (concluded_allowed p a l _ (stopped_by_two_or_nine fs _ _ n st)) (no _)) (no _)))
        (no _)) (no _)
