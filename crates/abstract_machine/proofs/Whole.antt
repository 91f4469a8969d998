-- A whole reading ends like the faultless run, if every cut can be mended.
--   along_none, along_on     P along a run: of no command; of one more
--   along_here, along_goes   P before the first command, and along the rest
--   along_kept               a property that each command keeps holds along with P
--   reading_ended            a reading whose run ended
--   reading_limited          whose run reached its limit
--   reading_exhausted        whose run was cut, with no recovery left
--   reading_stop             whose run was cut, and stopped by recovery
--   reading_restart          whose run was cut, with a restart
--   reading_finish           whose run was cut, and finished by recovery
--   Each                     a property of every element
--   Reads                    a reading that ends as a run does, with the recoveries that are asked for
--   Mended, Closed           what recovery makes of a cut inside a chain, and of one at its end
--   Strayed                  what it makes of a cut where the restarted run ends before it is back in the chain
--   GoesOn                   which of the two it is, where the chain goes on
--   end_of                    how the reading ends: as the faultless run, or as such a restarted run
--   ReadsLike                a reading from s ends so, with one recovery for each faulted data area
--   whole                    it does, if cuts are mended and closed
use Rattle.std.specs.Prelude.{Option, Some, None}
use Prim.Native.Nat.{ℕ, zero, suc, ◌+◌, ◌-◌, ◌≤◌, ◌<◌}
use native.Mathlib.Omega.{arith}
use mathlib.Core.Path.{◌≡◌, refl, ap, sym, ◌∙◌}
use mathlib.Core.Bool.{Bool, true, false}
use mathlib.Core.List.{List, [], ◌∷◌, ◌++◌, map, append-nil}
use lib.ListN.{length}
use lib.Seq.{append_snoc}
use Rattle.base.specs.Choice.{pick, opt}
use Rattle.abstract_machine.specs.Machine.{Stepped, goes, ends, cuts, Result, ended, cut, limit, run, notes, Along, ends_behind}
use Rattle.abstract_machine.specs.Reading as Reading
use Rattle.abstract_machine.specs.Reading.{CutAnswer, restart, finish, stop, Log, reading}
use Rattle.abstract_machine.proofs.Run.{run_goes, run_ends, run_cuts, notes_goes_some, notes_goes_none, notes_ends_some, notes_ends_none, behind_goes, behind_ends, behind_unmarked}

-- ---- along a run

module _ {S E C : Type 0} (step : S → Stepped S E C) (P : S → Type 0) where
  pub along_none : (s : S) → Along step P zero s
  unfolding Along
  along_none s = tt

  pub along_on : (n : ℕ) (s : S) → P s → ((t : S) → step s ≡ goes t → Along step P n t) → Along step P (suc n) s
  unfolding Along
  along_on n s h rest = (h, by (step s) refl)
    where
      by : (o : Stepped S E C) → step s ≡ o → elim (step s) as (λ o. Type 0) [ goes t ↦ Along step P n t | ends e ↦ Unit {0} | cuts c ↦ Unit {0} ]
      by (goes t) q = rw q (rest t q)
      by (ends e) q = rw q tt
      by (cuts c) q = rw q tt

  pub along_here : (n : ℕ) (s : S) → Along step P (suc n) s → P s
  unfolding Along
  along_here n s along = along.0

  pub along_goes : (n : ℕ) (s t : S) → step s ≡ goes t → Along step P (suc n) s → Along step P n t
  unfolding Along
  along_goes n s t q along = rw (q, Along) at along.1

module _ {S E C : Type 0} (step : S → Stepped S E C) (P Q : S → Type 0) where
  pub along_kept : ((s t : S) → P s → Q s → step s ≡ goes t → Q t) → (n : ℕ) (s : S) → Q s → Along step P n s → Along step (λ s. P s × Q s) n s
  along_kept keeps zero s h along = along_none step (λ s. P s × Q s) s
  along_kept keeps (suc n) s h along =
      let here : P s = along_here step P n s along in
      along_on step (λ s. P s × Q s) n s (here, h) (λ t q. along_kept keeps n t (keeps s t here h q) (along_goes step P n s t q along))

-- ---- a reading by its run

module _ {T R L E F C X : Type 0} (start : R → Result L E C) (recover : C → CutAnswer T R F X) (close : E → F) where
  pub reading_ended : (k : ℕ) (g : Log T R) (e : E) → reading start recover close k g (ended e) ≡ Reading.ends g (close e)
  unfolding reading
  reading_ended zero g e = refl
  reading_ended (suc k) g e = refl

  pub reading_limited : (k : ℕ) (g : Log T R) (l : L) → reading start recover close k g (limit l) ≡ Reading.limited g l
  unfolding reading
  reading_limited zero g l = refl
  reading_limited (suc k) g l = refl

  pub reading_exhausted : (g : Log T R) (c : C) → reading start recover close zero g (cut c) ≡ Reading.exhausted g c
  unfolding reading
  reading_exhausted g c = refl

  pub reading_stop : (k : ℕ) (g : Log T R) (c : C) (n : X) → recover c ≡ stop n → reading start recover close (suc k) g (cut c) ≡ Reading.stops g n c
  unfolding reading
  reading_stop k g c n h = rw (h, reading)

  pub reading_restart : (k : ℕ) (g : Log T R) (c : C) (t : T) (r : R) → recover c ≡ restart t r
      → reading start recover close (suc k) g (cut c) ≡ reading start recover close k (Reading.noted start recover close g t (r ∷ [])) (start r)
  unfolding reading
  reading_restart k g c t r h = rw (h, reading)

  pub reading_finish : (k : ℕ) (g : Log T R) (c : C) (t : T) (f : F) → recover c ≡ finish t f
      → reading start recover close (suc k) g (cut c) ≡ Reading.ends (Reading.noted start recover close g t []) f
  unfolding reading
  reading_finish k g c t f h = rw (h, reading)

-- ---- what is shown of a reading

abbrev pub Each : {A : Type 0} → (A → Type 0) → List A → Type 0
Each P [] = Unit {0}
Each P (a ∷ rest) = P a × Each P rest

module _ {T R L E F C X H : Type 0} (start : R → Result L E C) (recover : C → CutAnswer T R F X) (close : E → F) (name : T → H) (Inside : R → Type 0) where
  -- The reading that goes on with the run r, behind the log g, ends as a run that ends with e. Its further recoveries have the names hs.
  pub record Reads (k : ℕ) (g : Log T R) (r : Result L E C) (e : E) (hs : List H) : Type 0 where
    pub made : List T
    pub built : List R
    pub same_end : reading start recover close k g r ≡ Reading.ends (record { made = g.made ++ made; built = g.built ++ built }) (close e)
    pub same_names : map name made ≡ hs
    pub inside : Each Inside built

  module _ (k : ℕ) (g : Log T R) where
    reads_ended : (e : E) → Reads k g (ended e) e []
    reads_ended e = record {
      made = [];
      built = [];
      same_end = rw (append-nil g.made, append-nil g.built) (reading_ended start recover close k g e);
      same_names = refl;
      inside = tt;
    }

    module _ (c : C) (t : T) (h : H) (e : E) where
      reads_finish : recover c ≡ finish t (close e) → name t ≡ h → Reads (suc k) g (cut c) e (h ∷ [])
      unfolding Reading.noted
      reads_finish done is = record {
        made = t ∷ [];
        built = [];
        same_end = reading_finish start recover close k g c t (close e) done;
        same_names = ap (λ x. x ∷ []) is;
        inside = tt;
      }

      reads_restart : (r : R) (hs : List H) → recover c ≡ restart t r → name t ≡ h → Inside r
          → Reads k (Reading.noted start recover close g t (r ∷ [])) (start r) e hs → Reads (suc k) g (cut c) e (h ∷ hs)
      unfolding Reading.noted
      reads_restart r hs goes_on is within rest = record {
        made = t ∷ rest.made;
        built = r ∷ rest.built;
        same_end =
            rw (← (append_snoc g.made t rest.made), ← (append_snoc g.built r rest.built))
            (reading_restart start recover close k g c t r goes_on ∙ rest.same_end);
        same_names = rw (is, rest.same_names);
        inside = (within, rest.inside);
      }

-- ---- the whole reading

-- Restarted runs have m commands; a restart takes at most j of them to come back to the chain.
module _ {T R S L E F C X H : Type 0} (faulty : S → Stepped S E C) (shows : S → L) (start : R → Result L E C) (recover : C → CutAnswer T R F X) (close : E → F) (name : T → H)
    (m j : ℕ) (Inside : R → Type 0) where
  -- A cut in the state s, by the faulted data area h, of a chain that goes on at t: the restarted run comes to what the run from t does.
  pub record Mended (h : H) (s t : S) : Type 0 where
    pub report : C
    pub entry : T
    pub first : R
    pub used : ℕ
    pub is_cut : faulty s ≡ cuts report
    pub built : recover report ≡ restart entry first
    pub noted : name entry ≡ h
    pub few : used ≤ j
    pub inside : Inside first
    pub reaches : (n : ℕ) → used + suc n ≡ m → start first ≡ run faulty shows (suc n) t

  -- A cut of a chain that ends there with e: recovery answers that end.
  pub record Closed (h : H) (s : S) (e : E) : Type 0 where
    pub report : C
    pub entry : T
    pub is_cut : faulty s ≡ cuts report
    pub noted : name entry ≡ h
    pub done : recover report ≡ finish entry (close e)

  -- A cut of a chain that goes on: the restarted run ends with x before it is back in the chain.
  pub record Strayed (h : H) (s : S) (x : E) : Type 0 where
    pub report : C
    pub entry : T
    pub first : R
    pub is_cut : faulty s ≡ cuts report
    pub built : recover report ≡ restart entry first
    pub noted : name entry ≡ h
    pub inside : Inside first
    pub comes : start first ≡ ended x

  abbrev Comes : ℕ → Log T R → Result L E C → E → List H → Type 0
  Comes = Reads start recover close name Inside

  module _ (b k : ℕ) (g : Log T R) (h : H) (s : S) (e : E) where
    reads_closed : Closed h s e → Comes (suc k) g (run faulty shows (suc b) s) e (h ∷ [])
    reads_closed w =
        rw (run_cuts faulty shows b s w.report w.is_cut)
        (reads_finish start recover close name Inside k g w.report w.entry h e w.done w.noted)

    reads_strayed : Strayed h s e → Comes (suc k) g (run faulty shows (suc b) s) e (h ∷ [])
    reads_strayed w =
        rw (run_cuts faulty shows b s w.report w.is_cut)
        (reads_restart start recover close name Inside k g w.report w.entry h e w.first [] w.built w.noted w.inside
        (rw w.comes (reads_ended start recover close name Inside k _ e)))

    -- the run from t has a command left
    reads_mended : (t : S) (hs : List H) → Mended h s t → j < m → ((n : ℕ) (g : Log T R) → m ≤ j + suc n → Comes k g (run faulty shows (suc n) t) e hs)
        → Comes (suc k) g (run faulty shows (suc b) s) e (h ∷ hs)
    reads_mended t hs w room rest =
        let n : ℕ = m - w.used - 1 in
        rw (run_cuts faulty shows b s w.report w.is_cut)
        (reads_restart start recover close name Inside k g w.report w.entry h e w.first hs w.built w.noted w.inside
        (rw (w.reaches n (omega (arith, w.few))) (rest n _ (omega (arith, w.few)))))

  -- `flag` is the faulted data area that the next command takes, and `before` says whether there is one. The command that comes next in the state t
  -- is marked by `last` if it ends the chain and a restart of a cut right before it ends already, with `instead` of its end.
  module _ (clean : S → Stepped S E C) (flag : S → Option H) (before last : S → Bool) (instead : E → E) where
    -- a cut in the state s of a chain that goes on at t, and ends with e
    pub data GoesOn (h : H) (s t : S) (e : E) : Bool → Type 0 where
      mended : Mended h s t → GoesOn h s t e false
      strayed : clean t ≡ ends e → flag t ≡ None → Strayed h s (instead e) → GoesOn h s t e true

    -- the end of the reading from s, where the faultless run of n commands ends with e
    abbrev pub end_of : ℕ → S → E → E
    end_of n s e = pick (ends_behind clean before last false n s) (instead e) e

    module _ (P : S → Type 0) (Good : E → Type 0)
        (plain : (s : S) → P s → flag s ≡ None → faulty s ≡ clean s)
        (marks : (s : S) → before s ≡ opt (flag s) false (λ h. true))
        (mends : (h : H) (s t : S) (n : ℕ) (e : E) → P s → flag s ≡ Some h → clean s ≡ goes t → run clean shows n t ≡ ended e → Good e → GoesOn h s t e (last t))
        (closes : (h : H) (s : S) (e : E) → P s → flag s ≡ Some h → clean s ≡ ends e → Good e → Closed h s e) where
      -- If the faultless run of n commands from s ends with e, the reading whose first run has b commands, with k recoveries allowed, ends so.
      abbrev pub ReadsLike : ℕ → Type 0
      ReadsLike n =
          (s : S) (e : E) → run clean shows n s ≡ ended e → Good e → Along clean P n s → n + j ≤ m
          → (b k : ℕ) (g : Log T R) → n ≤ b → length (notes clean flag n s) ≤ k
          → Reads start recover close name Inside k g (run faulty shows b s) (end_of n s e) (notes clean flag n s)

      -- ---- the end by the first command

      end_plain : (n : ℕ) (s t : S) (e : E) → clean s ≡ goes t → flag s ≡ None → end_of (suc n) s e ≡ end_of n t e
      unfolding opt
      end_plain n s t e q r = rw (behind_goes clean before last false n s t q, marks s, r)

      end_mended : (h : H) (n : ℕ) (s t : S) (e : E) → clean s ≡ goes t → flag s ≡ Some h → last t ≡ false → end_of (suc n) s e ≡ end_of n t e
      unfolding opt
      end_mended h n s t e q r l = rw (behind_goes clean before last false n s t q, marks s, r, behind_unmarked clean before last true n t l)

      end_strayed : (h : H) (n : ℕ) (s t : S) (e : E) → clean s ≡ goes t → flag s ≡ Some h → last t ≡ true → clean t ≡ ends e
          → end_of (suc (suc n)) s e ≡ instead e
      unfolding opt pick
      end_strayed h n s t e q r l z = rw (behind_goes clean before last false (suc n) s t q, marks s, r, behind_ends clean before last true n t e z, l)

      end_here : (n : ℕ) (s : S) (e : E) → clean s ≡ ends e → end_of (suc n) s e ≡ e
      unfolding pick
      end_here n s e q = rw (behind_ends clean before last false n s e q)

      -- ---- a cut where the chain goes on

      goes_on : (n : ℕ) → ReadsLike n → (h : H) (s t : S) (e : E) → P s → flag s ≡ Some h → clean s ≡ goes t → run clean shows n t ≡ ended e → Good e → Along clean P n t
          → suc n + j ≤ m → (b k : ℕ) (g : Log T R) → n ≤ b → length (notes clean flag n t) ≤ k
          → Comes (suc k) g (run faulty shows (suc b) s) (end_of (suc n) s e) (h ∷ notes clean flag n t)
      unfolding run
      goes_on n like h s t e here r q rest good along room b k g far many = by n refl (last t) refl (mends h s t n e here r q rest good)
        where
          by : (n' : ℕ) → n ≡ n' → (l : Bool) → last t ≡ l → GoesOn h s t e l → Comes (suc k) g (run faulty shows (suc b) s) (end_of (suc n) s e) (h ∷ notes clean flag n t)
          by n' y false l (mended w) =
              rw (end_mended h n s t e q r l)
              (reads_mended b k g h s (end_of n t e) t (notes clean flag n t) w (omega arith)
              (λ b' g' long. like t e rest good along (omega arith) (suc b') k g' (omega arith) many))
          by zero y true l (strayed Ends-there unflagged w) = let x : run clean shows zero t ≡ ended e = rw y at rest in let v : ◌≡◌ {A = ℕ} 0 1 = cc in absurd (omega arith)
          by (suc n') y true l (strayed Ends-there unflagged w) =
              rw (y, notes_ends_none clean flag n' t e Ends-there unflagged, end_strayed h n' s t e q r l Ends-there) (reads_strayed b k g h s (instead e) w)

      pub whole : (n : ℕ) → ReadsLike n
      unfolding run
      whole zero s e h good along room b k g far many = let z : ◌≡◌ {A = ℕ} 0 1 = cc in absurd (omega arith)
      whole (suc n) s e h good along room zero k g far many = absurd (omega arith)
      whole (suc n) s e h good along room (suc b) k g far many = by (whole n) (clean s) refl (flag s) refl k refl
        where
          here : P s
          here = along_here clean P n s along

          by : ReadsLike n → (o : Stepped S E C) → clean s ≡ o → (f : Option H) → flag s ≡ f → (k' : ℕ) → k ≡ k'
              → Comes k g (run faulty shows (suc b) s) (end_of (suc n) s e) (notes clean flag (suc n) s)
          by like (goes t) q None r k' z =
              let rest : run clean shows n t ≡ ended e = sym (run_goes clean shows n s t q) ∙ h in
              rw (notes_goes_none clean flag n s t q r, run_goes faulty shows b s t (plain s here r ∙ q), end_plain n s t e q r)
              (like t e rest good (along_goes clean P n s t q along) (omega arith) b k g (omega arith) (omega (arith, ap length (notes_goes_none clean flag n s t q r))))
          by like (goes t) q (Some u) r zero z = absurd (omega (arith, ap length (notes_goes_some clean flag n s t u q r)))
          by like (goes t) q (Some u) r (suc k') z =
              let rest : run clean shows n t ≡ ended e = sym (run_goes clean shows n s t q) ∙ h in
              let some_more : length (notes clean flag n t) ≤ k' = omega (arith, ap length (notes_goes_some clean flag n s t u q r)) in
              rw (z, notes_goes_some clean flag n s t u q r)
              (goes_on n like u s t e here r q rest good (along_goes clean P n s t q along) (omega arith) b k' g (omega arith) some_more)
          by like (ends x) q None r k' z =
              let same : x ≡ e = cc (run_ends clean shows n s x q) in
              rw (notes_ends_none clean flag n s x q r, run_ends faulty shows b s x (plain s here r ∙ q), same, end_here n s e (rw same at q))
              (reads_ended start recover close name Inside k g e)
          by like (ends x) q (Some u) r zero z = absurd (omega (arith, ap length (notes_ends_some clean flag n s x u q r)))
          by like (ends x) q (Some u) r (suc k') z =
              let same : x ≡ e = cc (run_ends clean shows n s x q) in
              rw (z, notes_ends_some clean flag n s x u q r, end_here n s e (rw same at q)) (reads_closed b k' g u s e (closes u s e here r (rw same at q) good))
          by like (cuts c) q f r k' z = let y : ◌≡◌ {A = ℕ} 0 1 = cc (run_cuts clean shows n s c q) in absurd (omega arith)
