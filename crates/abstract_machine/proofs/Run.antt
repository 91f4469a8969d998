-- Equations of `run`, `notes` and `ends_behind`.
--   run_goes               a run whose first command goes on
--   run_ends               whose first command ends it
--   run_cuts               whose first command is cut
--   run_again              `run_goes` with a number of commands above 0
--   run_ended              `run_ends` with such a number
--   run_cut_off            `run_cuts` with such a number
--   run_none               no command is left
--   run_cut_in             a run that was cut: the state before the command that was cut keeps what every command keeps
--   notes-goes-some, notes-goes-none, notes-ends-some, notes-ends-none, notes-cuts-some, notes-cuts-none
--                          what is noted, by the first command and its note
--   notes_few              at most one note for each command
--   behind_goes, behind_ends   `ends_behind` by the first command
--   LastTwo, last-two      the last two commands of a run that ends so
--   behind_unmarked        it does not ask what came before, if the first command is not marked as last
use Rattle.std.specs.Prelude.{Option, Some, None}
use Prim.Native.Nat.{ℕ, zero, suc, ◌-◌, ◌≤◌, ◌<◌}
use mathlib.Core.Path.{◌≡◌, refl, sym, ◌∙◌}
use mathlib.Core.Bool.{Bool, true, false, ◌&&◌}
use mathlib.Core.List.{[], ◌∷◌}
use lib.ListN.{length}
use native.Mathlib.Omega.{arith}
use Rattle.base.specs.Choice.{opt}
use Rattle.base.proofs.Choice.{and_left, and_right}
use Rattle.abstract_machine.specs.Machine.{Stepped, goes, ends, cuts, ended, cut, limit, run, notes, ends_behind}

module _ {S E C L : Type 0} (step : S → Stepped S E C) (shows : S → L) where
  pub run_goes : (n : ℕ) (s t : S) → step s ≡ goes t → run step shows (suc n) s ≡ run step shows n t
  unfolding run
  run_goes n s t h = rw (h, run)

  pub run_ends : (n : ℕ) (s : S) (e : E) → step s ≡ ends e → run step shows (suc n) s ≡ ended e
  unfolding run
  run_ends n s e h = rw (h, run)

  pub run_cuts : (n : ℕ) (s : S) (c : C) → step s ≡ cuts c → run step shows (suc n) s ≡ cut c
  unfolding run
  run_cuts n s c h = rw (h, run)

  -- ---- with a number of commands above 0

  pub run_again : (n : ℕ) (s t : S) → 0 < n → step s ≡ goes t → run step shows n s ≡ run step shows (n - 1) t
  run_again zero s t h q = absurd (omega arith)
  run_again (suc n) s t h q = let e : suc n - 1 ≡ n = omega arith in rw e (run_goes n s t q)

  pub run_ended : (n : ℕ) (s : S) (e : E) → 0 < n → step s ≡ ends e → run step shows n s ≡ ended e
  run_ended zero s e h q = absurd (omega arith)
  run_ended (suc n) s e h q = run_ends n s e q

  pub run_cut_off : (n : ℕ) (s : S) (c : C) → 0 < n → step s ≡ cuts c → run step shows n s ≡ cut c
  run_cut_off zero s c h q = absurd (omega arith)
  run_cut_off (suc n) s c h q = run_cuts n s c q

  pub run_none : (n : ℕ) (s : S) → n ≤ 0 → run step shows n s ≡ limit (shows s)
  unfolding run
  run_none zero s h = refl
  run_none (suc n) s h = absurd (omega arith)

  -- ---- a run that was cut

  pub run_cut_in : (P : S → Type 0) → ((s t : S) → P s → step s ≡ goes t → P t) → (n : ℕ) (s : S) → P s → (c : C) → run step shows n s ≡ cut c
      → (t : S) × P t × (step t ≡ cuts c)
  run_cut_in P keeps zero s h c e = let z : ◌≡◌ {A = ℕ} 0 1 = cc (run_none zero s (omega arith)) in absurd (omega arith)
  run_cut_in P keeps (suc n) s h c e = by (run_cut_in P keeps n) (step s) refl
    where
      by : ((t : S) → P t → (c : C) → run step shows n t ≡ cut c → (u : S) × P u × (step u ≡ cuts c)) → (o : Stepped S E C) → step s ≡ o → (t : S) × P t × (step t ≡ cuts c)
      by later (goes t) q = later t (keeps s t h q) c (sym (run_goes n s t q) ∙ e)
      by later (ends x) q = let z : ◌≡◌ {A = ℕ} 0 1 = cc (run_ends n s x q) in absurd (omega arith)
      by later (cuts d) q = let same : d ≡ c = cc (run_cuts n s d q) in (s, h, rw (← same) q)

-- ---- notes

module _ {S E C : Type 0} (step : S → Stepped S E C) {T : Type 0} (note : S → Option T) where
  pub notes_goes_some : (n : ℕ) (s t : S) (x : T) → step s ≡ goes t → note s ≡ Some x → notes step note (suc n) s ≡ x ∷ notes step note n t
  unfolding notes opt
  notes_goes_some n s t x h k = rw (h, k, notes)

  pub notes_goes_none : (n : ℕ) (s t : S) → step s ≡ goes t → note s ≡ None → notes step note (suc n) s ≡ notes step note n t
  unfolding notes opt
  notes_goes_none n s t h k = rw (h, k, notes)

  pub notes_ends_some : (n : ℕ) (s : S) (e : E) (x : T) → step s ≡ ends e → note s ≡ Some x → notes step note (suc n) s ≡ x ∷ []
  unfolding notes opt
  notes_ends_some n s e x h k = rw (h, k, notes)

  pub notes_ends_none : (n : ℕ) (s : S) (e : E) → step s ≡ ends e → note s ≡ None → notes step note (suc n) s ≡ []
  unfolding notes opt
  notes_ends_none n s e h k = rw (h, k, notes)

  pub notes_cuts_some : (n : ℕ) (s : S) (c : C) (x : T) → step s ≡ cuts c → note s ≡ Some x → notes step note (suc n) s ≡ x ∷ []
  unfolding notes opt
  notes_cuts_some n s c x h k = rw (h, k, notes)

  pub notes_cuts_none : (n : ℕ) (s : S) (c : C) → step s ≡ cuts c → note s ≡ None → notes step note (suc n) s ≡ []
  unfolding notes opt
  notes_cuts_none n s c h k = rw (h, k, notes)

  pub notes_few : (n : ℕ) (s : S) → length (notes step note n s) ≤ n
  unfolding notes
  notes_few zero s = omega arith
  notes_few (suc n) s = by (notes_few n) (step s) refl (note s) refl
    where
      by : ((t : S) → length (notes step note n t) ≤ n) → (o : Stepped S E C) → step s ≡ o → (m : Option T) → note s ≡ m → length (notes step note (suc n) s) ≤ suc n
      by few (goes t) q (Some x) r = rw (notes_goes_some n s t x q r) (omega (arith, few t))
      by few (goes t) q None r = rw (notes_goes_none n s t q r) (omega (arith, few t))
      by few (ends e) q (Some x) r = rw (notes_ends_some n s e x q r) (omega arith)
      by few (ends e) q None r = rw (notes_ends_none n s e q r) (omega arith)
      by few (cuts c) q (Some x) r = rw (notes_cuts_some n s c x q r) (omega arith)
      by few (cuts c) q None r = rw (notes_cuts_none n s c q r) (omega arith)

-- ---- the last two commands of a run

module _ {S E C : Type 0} (step : S → Stepped S E C) (before last : S → Bool) where
  pub behind_goes : (b : Bool) (n : ℕ) (s t : S) → step s ≡ goes t → ends_behind step before last b (suc n) s ≡ ends_behind step before last (before s) n t
  unfolding ends_behind
  behind_goes b n s t h = rw (h, ends_behind)

  pub behind_ends : (b : Bool) (n : ℕ) (s : S) (e : E) → step s ≡ ends e → ends_behind step before last b (suc n) s ≡ (b && last s)
  unfolding ends_behind
  behind_ends b n s e h = rw (h, ends_behind)

  pub behind_unmarked : (b : Bool) (n : ℕ) (s : S) → last s ≡ false → ends_behind step before last b n s ≡ ends_behind step before last false n s
  unfolding ends_behind
  behind_unmarked b zero s h = refl
  behind_unmarked b (suc n) s h = by (step s) refl
    where
      none_marked : (c : Bool) → (c && false) ≡ false
      none_marked true = refl
      none_marked false = refl

      by : (o : Stepped S E C) → step s ≡ o → ends_behind step before last b (suc n) s ≡ ends_behind step before last false (suc n) s
      by (goes t) q = behind_goes b n s t q ∙ sym (behind_goes false n s t q)
      by (ends e) q = behind_ends b n s e q ∙ rw h (none_marked b) ∙ sym (behind_ends false n s e q)
      by (cuts c) q = rw (q, ends_behind)

  -- The last two commands of a run that ends with e, with their marks.
  pub record LastTwo (e : E) : Type 0 where
    pub first : S
    pub second : S
    pub goes_on : step first ≡ goes second
    pub ends_it : step second ≡ ends e
    pub marked_first : before first ≡ true
    pub marked_second : last second ≡ true

  -- where the run is at its last command, or comes to it
  data Closing (b : Bool) (s : S) (e : E) : Type 0 where
    here : b ≡ true → last s ≡ true → step s ≡ ends e → Closing b s e
    later : LastTwo e → Closing b s e

  module _ {L : Type 0} (shows : S → L) where
    closing : (n : ℕ) (b : Bool) (s : S) (e : E) → run step shows n s ≡ ended e → ends_behind step before last b n s ≡ true → Closing b s e
    closing zero b s e h k = let z : ◌≡◌ {A = ℕ} 0 1 = cc (run_none step shows zero s (omega arith)) in absurd (omega arith)
    closing (suc n) b s e h k = by (closing n) (step s) refl
      where
        by : ((b : Bool) (s : S) (e : E) → run step shows n s ≡ ended e → ends_behind step before last b n s ≡ true → Closing b s e)
            → (o : Stepped S E C) → step s ≡ o → Closing b s e
        by rest (goes t) q = next (rest (before s) t e (sym (run_goes step shows n s t q) ∙ h) (sym (behind_goes b n s t q) ∙ k))
          where
            next : Closing (before s) t e → Closing b s e
            next (here m l is) = later (record { first = s; second = t; goes_on = q; ends_it = is; marked_first = m; marked_second = l })
            next (later x) = later x
        by rest (ends x) q =
            let same : x ≡ e = cc (run_ends step shows n s x q) in
            let marks = sym (behind_ends b n s x q) ∙ k in
            here (and_left b (last s) marks) (and_right b (last s) marks) (rw same at q)
        by rest (cuts c) q = let z : ◌≡◌ {A = ℕ} 0 1 = cc (run_cuts step shows n s c q) in absurd (omega arith)

    pub last_two : (n : ℕ) (s : S) (e : E) → run step shows n s ≡ ended e → ends_behind step before last false n s ≡ true → LastTwo e
    last_two n s e h k = by (closing n false s e h k)
      where
        by : Closing false s e → LastTwo e
        by (here m l is) = let z : ◌≡◌ {A = ℕ} 0 1 = cc in absurd (omega arith)
        by (later x) = x
