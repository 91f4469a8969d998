-- Where multitrack commands reach.
--   reached_by      a property of what comes of a `Reached`, by what it is
--   reached_same    two things that come of it, equal for each drive reached
--   Masked          the drive reached has the mask from before
--   masked_is       so has the one that is named
--   search_masked   that of a search
--   take_masked     and of a read
--   search_first    a step that the mask forbids is the first that the command would make: it fails on the head where the command began
--   take_first      so of a read
--   refused_at      the end of a chain by a unit check
use Prim.Native.Nat.{ℕ, zero, suc, ◌+◌, ◌<◌}
use mathlib.Core.Path.{◌≡◌, refl, sym, ◌∙◌}
use mathlib.Core.Bool.{Bool, true, false, true≢false}
use mathlib.Core.List.{List}
use borrow.Author.Tests.{ltb-true}
use Rattle.base.proofs.Choice.{both, both_if, either}
use Rattle.pack.specs.Pack.{Track}
use Rattle.channel.specs.declared.Ccw.{Ccw}
use Rattle.channel.specs.declared.Location.{Location}
use Rattle.channel.specs.Csw.{csw_at, end_status, unit_check}
use Rattle.drive.specs.Drive.{Drive, at_index}
use Rattle.drive.specs.Step as Step
use Rattle.drive.specs.Step.{End, Check, rejected, not_found, protected, end_of_cylinder, protected_step, Reached, reaches, fails, on_reached}

pub reached_by : {A : Type 0} (P : A → Type 0) (r : Reached) {f : Check → A} {g : Drive → A}
    → ((k : Check) → r ≡ fails k → P (f k)) → ((e : Drive) → r ≡ reaches e → P (g e)) → P (on_reached r f g)
unfolding on_reached
reached_by P (reaches e) h k = k e refl
reached_by P (fails x) h k = h x refl

pub reached_same : {A : Type 0} (r : Reached) (f : Check → A) {g h : Drive → A} → ((e : Drive) → g e ≡ h e) → on_reached r f g ≡ on_reached r f h
unfolding on_reached
reached_same (reaches e) f same = same e
reached_same (fails k) f same = refl

-- ---- the mask

abbrev pub Masked : Drive → Reached → Type 0
Masked d (reaches e) = e.mask ≡ d.mask
Masked d (fails k) = Unit {0}

pub masked_is : (d e : Drive) (r : Reached) → Masked d r → r ≡ reaches e → e.mask ≡ d.mask
masked_is d e r h q = rw q at h

stepped_masked : (d : Drive) → Masked d (Step.stepped d)
unfolding Step.stepped Step.next_head at_index
stepped_masked d = both (Masked d) _ (both (Masked d) _ tt refl) tt

pub search_masked : (pack : List Track) (d : Drive) → Masked d (Step.search_from pack d)
unfolding Step.search_from
search_masked pack d = either (Masked d) _ tt (λ t. both (Masked d) _ (stepped_masked d) refl)

-- from a drive with the same mask
masked_on : (d e : Drive) → e.mask ≡ d.mask → (r : Reached) → Masked e r → Masked d r
masked_on d e same (reaches x) h = h ∙ same
masked_on d e same (fails k) h = tt

read_masked : (pack : List Track) (n : ℕ) (d : Drive) → Masked d (Step.read_from pack n d)
unfolding Step.read_from
read_masked pack zero d = tt
read_masked pack (suc n) d =
    either (Masked d) _ tt (λ t. both (Masked d) _ (further (read_masked pack n)) refl)
  where
    further : ((e : Drive) → Masked e (Step.read_from pack n e)) → Masked d (on_reached (Step.stepped d) fails (Step.read_from pack n))
    further later =
        reached_by (Masked d) (Step.stepped d) (λ k q. tt)
        (λ e q. masked_on d e (masked_is d e (Step.stepped d) (stepped_masked d) q) (Step.read_from pack n e) (later e))

pub take_masked : (pack : List Track) (just : Bool) (d : Drive) → Masked d (Step.take_from pack just d)
unfolding Step.take_from
take_masked pack just d = both (Masked d) _ refl (read_masked pack 19 d)

-- ---- a protected step

-- the mask forbids the steps of the drive d, which stands on this head, and it is not the last one
abbrev ByMask : Drive → ℕ → Type 0
ByMask d head = (Step.protects_step d.mask ≡ true) × (head ≡ d.at.head) × (head < 18)

abbrev FirstCheck : Drive → Check → Type 0
FirstCheck d rejected = Unit {0}
FirstCheck d not_found = Unit {0}
FirstCheck d protected = Unit {0}
FirstCheck d end_of_cylinder = Unit {0}
FirstCheck d (protected_step head) = ByMask d head

abbrev pub FirstStep : Drive → Reached → Type 0
FirstStep d (reaches e) = Unit {0}
FirstStep d (fails k) = FirstCheck d k

first_step : (d : Drive) → FirstStep d (Step.stepped d)
unfolding Step.stepped
first_step d = both_if (FirstStep d) _ (λ h. both_if (FirstStep d) _ (λ p. (p, refl, ltb-true _ _ h)) (λ p. tt)) (λ h. tt)

pub search_first : (pack : List Track) (d : Drive) → FirstStep d (Step.search_from pack d)
unfolding Step.search_from
search_first pack d = either (FirstStep d) _ tt (λ t. both (FirstStep d) _ (first_step d) tt)

-- a step that is made is not forbidden
abbrev Free : Drive → Reached → Type 0
Free d (reaches e) = Step.protects_step d.mask ≡ false
Free d (fails k) = Unit {0}

stepped_free : (d : Drive) → Free d (Step.stepped d)
unfolding Step.stepped
stepped_free d = both (Free d) _ (both_if (Free d) _ (λ p. tt) (λ p. p)) tt

-- behind such a step, with the same mask, none is
none_first : (d e : Drive) → Step.protects_step e.mask ≡ false → (r : Reached) → FirstStep e r → FirstStep d r
none_first d e free (reaches x) h = tt
none_first d e free (fails rejected) h = tt
none_first d e free (fails not_found) h = tt
none_first d e free (fails protected) h = tt
none_first d e free (fails end_of_cylinder) h = tt
none_first d e free (fails (protected_step head)) h = absurd (true≢false (sym h.0 ∙ free))

read_first : (pack : List Track) (n : ℕ) (d : Drive) → FirstStep d (Step.read_from pack n d)
unfolding Step.read_from
read_first pack zero d = tt
read_first pack (suc n) d =
    either (FirstStep d) _ tt (λ t. both (FirstStep d) _ (further (read_first pack n)) tt)
  where
    further : ((e : Drive) → FirstStep e (Step.read_from pack n e)) → FirstStep d (on_reached (Step.stepped d) fails (Step.read_from pack n))
    further later =
        reached_by (FirstStep d) (Step.stepped d) (λ k q. rw q at (first_step d))
        (λ e q.
        let free : Step.protects_step d.mask ≡ false = rw q at (stepped_free d) in
        none_first d e (rw (masked_is d e (Step.stepped d) (stepped_masked d) q) free) (Step.read_from pack n e) (later e))

pub take_first : (pack : List Track) (just : Bool) (d : Drive) → FirstStep d (Step.take_from pack just d)
unfolding Step.take_from
take_first pack just d = both (FirstStep d) _ tt (read_first pack 19 d)

-- ---- a command that a unit check ends

abbrev pub refused_at : Check → Location → Ccw → Drive → List ℕ → End
refused_at k l c d st = record { csw = csw_at l (end_status + unit_check) 0 c.count; sense = Step.check_sense k; mask = d.mask; storage = st }
