-- A reading from its first run on, from the tests that the code makes.
--   Logged           the areas hold what the recoveries made so far left in them
--   Onward           the reading goes on with a run, behind these recoveries
--   at_first         it does with the first run
--   on_ended, on_limited, on_exhausted   its end: by the run, by its limit, by a cut too many
--   on_closed, on_halted                 by what a cut comes to
--   on_again         one recovery more, and the restarted run
use Rattle.std.specs.Prelude.{Some, Ok}
use Prim.Native.Nat.{ℕ, suc, ◌+◌, ◌-◌, ◌≤◌}
use native.Mathlib.Omega.{arith}
use mathlib.Core.Path.{◌≡◌, refl, ap, sym, ◌∙◌}
use mathlib.Core.List.{List, [], ◌∷◌, ◌++◌, append-nil}
use lib.ListN.{length, length-append}
use Rattle.questions.specs.Areas.{restart_limit}
use Rattle.faults.specs.Faults.{Fault, faults_at}
use Rattle.address.specs.declared.Extent.{Extent}
use Rattle.address.specs.Model.{last_of}
use Rattle.abstract_machine.specs.Machine.{Result}
use Rattle.abstract_machine.specs.Reading as Reading
use Rattle.abstract_machine.specs.Reading.{Log}
use Rattle.abstract_machine.proofs.Whole.{reading_ended, reading_limited, reading_exhausted, reading_restart, reading_finish, reading_stop}
use Rattle.channel.specs.declared.Csw.{Csw}
use Rattle.channel.specs.declared.Location.TheVariants as Location
use Rattle.drive.specs.Step as Step
use Rattle.drive.specs.Run.{Limit}
use Rattle.command.specs.declared.Cut.{Cut}
use Rattle.command.specs.declared.End.{End}
use Rattle.trial.specs.declared.Limit as Code
use Rattle.trial.specs.declared.Ran.{Ran}
use Rattle.trial.specs.Run.{ran_of, Runs}
use Rattle.demand_three.specs.WholeReading.{Entry, Restarted, Whole, restarted_in, restarted_run, final, given_in}
use Rattle.reading_runs.specs.declared.How.{How}
use Rattle.reading_runs.specs.declared.How.TheVariants.{Ended, Limited, Stop}
use Rattle.reading_cut.specs.declared.Went.TheVariants.{Again, Closed, Halted}
use Rattle.reading_cut.specs.Entry.{entry_bytes}
use Rattle.reading_cut.specs.Cut.{Areas, lent_areas, AfterCut}
use Rattle.reading_runs.specs.Conclusion.{Conclusion, entries_bytes, list_after, program_after, restart_arguments_after, leaving, over, concluded}
use Rattle.reading_runs.specs.On.{told_of, no_log, read_on, ReadsOn}
use Rattle.reading_runs.proofs.Listed.{note_at, part_at, home_at, part_kept, part_noted, noted_list, program_last, arguments_last}

-- from the areas z, the recoveries of a log lead to the areas y
pub record Logged (z : Areas) (g : Log Entry Restarted) (made : ℕ) (y : Areas) : Type 0 where
  pub count : made ≡ length g.made
  pub program : y.program ≡ program_after g.built z.program
  pub restart_arguments : y.restart_arguments ≡ restart_arguments_after g.built z.restart_arguments
  pub list : y.list ≡ list_after g.made z.list

module _ (z : Areas) (g : Log Entry Restarted) (made : ℕ) (y : Areas) (logged : Logged z g made y) where
  -- an end of the reading, in the code's terms and in the definitions'
  over_is : (h : How) (w : Csw) → leaving (Ok (record { csw = w; made = made; how = h })) y.storage y.program y.restart_arguments y.list
      ≡ over g h w y.storage z.program z.restart_arguments z.list
  unfolding over
  over_is h w = λ i. record {
    answer = Ok (record { csw = w; made = logged.count i; how = h });
    storage = y.storage;
    program = logged.program i;
    restart_arguments = logged.restart_arguments i;
    list = logged.list i;
  }

  -- one recovery more, with a restart and without
  module _ (t : Entry) (y' : Areas) (q : y'.list ≡ note_at made (entry_bytes t) y.list) where
    one_more : made + 1 ≡ length (g.made ++ t ∷ [])
    one_more = let n = length-append g.made (t ∷ []) in omega (arith, logged.count)

    list_more : y'.list ≡ list_after (g.made ++ t ∷ []) z.list
    list_more =
        q ∙ ap (note_at made (entry_bytes t)) logged.list ∙ noted_list g.made t z.list made logged.count

    pub logged_restart : (b : Restarted) → y'.program ≡ b.program → y'.restart_arguments ≡ b.restart_arguments
        → Logged z (record { made = g.made ++ t ∷ []; built = g.built ++ b ∷ [] }) (made + 1) y'
    logged_restart b p a = record {
      count = one_more;
      program = p ∙ sym (program_last g.built b z.program);
      restart_arguments = a ∙ sym (arguments_last g.built b z.restart_arguments);
      list = list_more;
    }

    pub logged_finish : y'.program ≡ y.program → y'.restart_arguments ≡ y.restart_arguments
        → Logged z (record { made = g.made ++ t ∷ []; built = g.built ++ [] }) (made + 1) y'
    logged_finish p a = record {
      count = one_more;
      program = p ∙ logged.program ∙ ap (λ (l : List Restarted). program_after l z.program) (sym (append-nil g.built));
      restart_arguments = a ∙ logged.restart_arguments ∙ ap (λ (l : List Restarted). restart_arguments_after l z.restart_arguments) (sym (append-nil g.built));
      list = list_more;
    }

-- ---- the loop

more_left : (n m : ℕ) → m ≤ n → (m ≡ n → ⊥) → n - m ≡ suc (n - (m + 1))
more_left n m h ne = omega arith

module _ (chain arguments image faults : List ℕ) (x : Extent) (n : ℕ) (first : Ran) (z : Areas) where
  abbrev rest : List Fault → ℕ → Log Entry Restarted → Ran → List ℕ → Whole
  rest fs k g r st = read_on fs (told_of (last_of x.model) chain arguments image) x k g (ran_of r st)

  abbrev pub Onward : ℕ → Ran → Areas → Type 0
  Onward made r y =
      (g : Log Entry Restarted) × Logged z g made y
      × ((fs : List Fault) → faults_at faults 0 ≡ Some fs → rest fs n no_log first z.storage ≡ rest fs (n - made) g r y.storage)

  pub at_first : Onward 0 first z
  unfolding program_after restart_arguments_after list_after entries_bytes
  at_first = (no_log, record { count = refl; program = refl; restart_arguments = refl; list = refl }, λ fs e. ap (λ (k : ℕ). rest fs k no_log first z.storage) (let d : n ≡ n - 0 = omega arith in d))

  abbrev shown : Whole → Conclusion
  shown q = concluded q z.program z.restart_arguments z.list

  abbrev Ends : ℕ → How → Csw → Areas → Type 0
  Ends made h w y = ReadsOn chain arguments image faults x n first z (record { csw = w; made = made; how = h }) y

  -- the conclusion of a reading that goes on
  concludes : (y : Areas) (made : ℕ) (r : Ran) (o : Onward made r y) (c : Conclusion)
      → ((fs : List Fault) → c ≡ shown (rest fs (n - made) o.0 r y.storage))
      → (fs : List Fault) → faults_at faults 0 ≡ Some fs → c ≡ shown (rest fs n no_log first z.storage)
  concludes y made r o c h fs e =
      h fs ∙ ap shown (sym (o.2 fs e))

  module _ (made : ℕ) (y : Areas) where
    pub on_ended : (e : End) → Onward made (Ran.Ended e) y → Ends made Ended e.csw y
    unfolding concluded final
    on_ended e o =
        concludes y made (Ran.Ended e) o _
        (λ fs. over_is z o.0 made y o.1 Ended e.csw
        ∙ ap shown (sym (reading_ended _ _ _ (n - made) o.0 _)))

    pub on_limited : (m : Code.Limit) → Onward made (Ran.Limited m) y → Ends made Limited m.csw y
    unfolding concluded
    on_limited m o =
        concludes y made (Ran.Limited m) o _
        (λ fs. over_is z o.0 made y o.1 Limited m.csw
        ∙ ap shown (sym (reading_limited _ _ _ (n - made) o.0 _)))

    module _ (k : Cut) (o : Onward made (Ran.Cut k) y) where
      pub on_exhausted : made ≡ n → Ends made Limited k.csw y
      unfolding concluded
      on_exhausted e =
          concludes y made (Ran.Cut k) o _
          (λ fs. over_is z o.0 made y o.1 Limited k.csw
          ∙ ap shown
          (sym (ap (λ (m : ℕ). rest fs m o.0 (Ran.Cut k) y.storage) (let d : n - made ≡ 0 = omega arith in d) ∙ reading_exhausted _ _ _ o.0 _)))

      module _ (few : made ≤ n) (ne : made ≡ n → ⊥) where
        -- the reading with one recovery at least
        some_left : (fs : List Fault) → rest fs (n - made) o.0 (Ran.Cut k) y.storage ≡ rest fs (suc (n - (made + 1))) o.0 (Ran.Cut k) y.storage
        some_left fs = ap (λ (m : ℕ). rest fs m o.0 (Ran.Cut k) y.storage) (more_left n made few ne)

        -- the areas that the cut is lent, and those behind it
        abbrev lent_to : Areas
        lent_to = lent_areas y.storage y.program y.restart_arguments (part_at made y.list)

        abbrev home : Areas → Areas
        home u = lent_areas u.storage u.program u.restart_arguments (home_at made y.list u.list)

        pub on_closed : (w : Csw) (u : Areas) → AfterCut chain x k lent_to (Closed w) u → Ends (made + 1) Ended w (home u)
        unfolding concluded Reading.noted given_in
        on_closed w u (t, e, p, a, q) =
            concludes y made (Ran.Cut k) o _
            (λ fs. over_is z _ (made + 1) (home u) (logged_finish z o.0 made y o.1 t (home u) (part_noted made y.list u.list t q) p a) Ended w
            ∙ ap shown (sym (some_left fs ∙ reading_finish _ _ _ (n - (made + 1)) o.0 _ t _ e)))

        pub on_halted : (m : ℕ) (u : Areas) → AfterCut chain x k lent_to (Halted m) u → Ends made (Stop m) k.csw (home u)
        unfolding concluded given_in
        on_halted m u (s, e, f, same) =
            let kept : home u ≡ y = ap home same ∙ ap (lent_areas y.storage y.program y.restart_arguments) (part_kept made y.list) in
            concludes y made (Ran.Cut k) o _
            (λ fs. ap (λ (v : Areas). leaving (Ok (record { csw = k.csw; made = made; how = Stop m })) v.storage v.program v.restart_arguments v.list) kept
            ∙ over_is z o.0 made y o.1 (Stop m) k.csw
            ∙ ap (λ (v : ℕ). over o.0 (Stop v) k.csw y.storage z.program z.restart_arguments z.list) f
            ∙ ap shown (sym (some_left fs ∙ reading_stop _ _ _ (n - (made + 1)) o.0 _ s e)))

        pub on_again : (u : Areas) → AfterCut chain x k lent_to Again u
            → (r : Ran) (after : List ℕ) → Runs (last_of x.model) chain arguments u.program u.restart_arguments image faults restart_limit (Location.Restart 0) u.storage r after
            → Onward (made + 1) r (lent_areas after u.program u.restart_arguments (home_at made y.list u.list))
        unfolding Reading.noted given_in restarted_run restarted_in
        on_again u (t, e, q) r after runs =
            let b : Restarted = record { program = u.program; restart_arguments = u.restart_arguments; storage = u.storage } in (
              record { made = o.0.made ++ t ∷ []; built = o.0.built ++ b ∷ [] },
              logged_restart z o.0 made y o.1 t _ (part_noted made y.list u.list t q) b refl refl,
              λ fs l.
                  o.2 fs l ∙ some_left fs ∙ reading_restart _ _ _ (n - (made + 1)) o.0 _ t b e
                  ∙ ap (λ (m : Result Limit Step.End Step.Cut). read_on fs (told_of (last_of x.model) chain arguments image) x (n - (made + 1)) (record { made = o.0.made ++ t ∷ []; built = o.0.built ++ b ∷ [] }) m) (runs fs l),
            )
