-- The restarted run comes back to the user's next command, which then does what it does in the faultless run.
--   Sought, Faultless     what is known of the record that the restart looks for, and of the faultless run behind it
--   commands              how many commands the restart program takes up to its last TIC
--   commands_few          at most three controls, a search for each place up to the record's, a read count
--   Before, reached       the drive and the state before the last TIC
--   to_search             seek, mask and sector bring the drive to the index of the track, with the mask
--   to_last               the whole program reaches the last TIC, with storage untouched
--   to_count_failed       unless no record is ahead of its 92, which ends it then
--   plan_last             the last TIC and the user's command are one step, planned as in the faultless run
--   resumes               so the restarted run goes on with the faultless run's next step
use Rattle.std.specs.Prelude.{Option, Some, None, Ok}
use Prim.Native.Nat.{ℕ, zero, suc, ◌+◌, ◌-◌, ◌≤◌, ◌<◌}
use mathlib.Core.Path.{◌≡◌, refl, ap, sym, ◌∙◌}
use mathlib.Core.Bool.{Bool, true, false}
use mathlib.Core.List.{List}
use lib.Dec.{eqb}
use lib.ListN.{length, get_or}
use native.Mathlib.Nat.{suc-add, zero-add}
use native.Mathlib.Omega.{arith}
use borrow.Author.Tests.{ltb-true, lt-ltb, le-ltb, eq-eqb, ne_eqb}
use Rattle.base.specs.Choice.{pick}
use Rattle.base.proofs.Choice.{both, both_if}
use Rattle.address.specs.declared.Address.{Address}
use Rattle.address.specs.Order.{on_pack}
use Rattle.pack.specs.Pack.{Track, track_in}
use Rattle.faults.specs.Faults.{Fault}
use Rattle.abstract_machine.specs.Machine.{goes, ended, run}
use Rattle.abstract_machine.proofs.Run.{run_goes, run_ends}
use Rattle.channel.specs.declared.Ccw.{Ccw}
use Rattle.channel.specs.declared.Location.{Location}
use Rattle.channel.specs.declared.Location.TheVariants.{Chain, Restart}
use Rattle.channel.specs.Ccw.{fetch, is_tic, resolve, target}
use Rattle.channel.proofs.Answers.{plain_ccw, tic_lands}
use Rattle.drive.specs.Drive as Drive
use Rattle.drive.specs.Drive.{Drive, no_record}
use Rattle.drive.specs.Step as Step
use Rattle.drive.specs.Step.{State, Setting, fails, execute, answer, carry, plan, step, settable}
use Rattle.drive.specs.Run.{limit_of, start}
use Rattle.drive.proofs.Multitrack.{refused_at}
use Rattle.restart.specs.declared.ReadCount.{ReadCount}
use Rattle.restart.specs.declared.ReadCount.TheVariants.{Omitted, Single, Multitrack}
use Rattle.restart.specs.Restart.{count_for}
use Rattle.restart.proofs.Commands
use Rattle.restart.proofs.Commands.{restarted, standing, placed, ahead, search_ccw, sector_at, search_at, count_at, last_at}
use Rattle.restart.proofs.Join.{Counted, omitted, single, multitrack, counted, Found, execute_five, execute_five_a, execute_five_a_multitrack}

-- ---- what is looked for, and how far it is

-- The record at place i of the track t at a, and no other up to it, has the number r; it is not R0.
pub record Sought (w : Setting) (a : Address) (r : ℕ) (t : Track) (i : ℕ) : Type 0 where
  pub is_on_pack : on_pack w.last a ≡ true
  pub there : track_in w.pack a ≡ Some t
  pub inside : i < length t.records
  pub not_zero : 0 < i
  pub own : (j : ℕ) → j < length t.records → (get_or t.records j no_record).at ≡ a
  pub this : (get_or t.records i no_record).r ≡ r
  pub others : (j : ℕ) → j < i → (get_or t.records j no_record).r ≡ r → ⊥

-- The faultless run behind its read of that record, before the user's command x at place `to` of the chain, whose code says which read count
-- the restart has.
pub record Faultless (w : Setting) (a : Address) (m : Option ℕ) (counts : ReadCount) (i to : ℕ) (x : Ccw) (st : List ℕ) (s : State) : Type 0 where
  pub drive : s.drive ≡ placed a m (i + 1) false
  pub storage : s.storage ≡ st
  pub comes : resolve w.lent s.last s.at ≡ Ok (Chain to, x)
  pub held : fetch w.lent (Chain to) ≡ Some x
  pub plain : is_tic x ≡ false
  pub in_chain : to < 0x1000
  pub counted : count_for x.command ≡ counts

abbrev pub controls : Option ℕ → ℕ
controls None = 2
controls (Some b) = 3

abbrev pub read_counts : ReadCount → ℕ
read_counts Omitted = 0
read_counts Single = 1
read_counts Multitrack = 1

abbrev pub commands : Option ℕ → (counts : ReadCount) → (i : ℕ) → ℕ
commands m counts i = controls m + (suc i + read_counts counts)

pub commands_few : (m : Option ℕ) (counts : ReadCount) (i : ℕ) → commands m counts i ≤ 3 + (i + 1) + 1
commands_few None Omitted i = omega arith
commands_few None Single i = omega arith
commands_few None Multitrack i = omega arith
commands_few (Some b) Omitted i = omega arith
commands_few (Some b) Single i = omega arith
commands_few (Some b) Multitrack i = omega arith

-- the CCW that is fetched last before the last TIC
abbrev pub before_last : Option ℕ → (counts : ReadCount) → ℕ
before_last m Omitted = search_at m
before_last m Single = count_at m
before_last m Multitrack = count_at m

-- the drive before the last TIC: behind the count area of the record at place i of the track t, or behind the one that the read count took
pub data Before (w : Setting) (a : Address) (m : Option ℕ) (t : Track) (i : ℕ) : ReadCount → Drive → Type 0 where
  searched : Before w a m t i Omitted (placed a m (i + 1) true)
  counted_on_track : Before w a m t i Single (placed a m (ahead t (i + 1) + 1) true)
  counted_on : (f : Found w.pack m 19 a (i + 1)) → Before w a m t i Multitrack (placed f.at m (ahead f.track f.place + 1) true)

-- the state before the last TIC
abbrev pub reached : Option ℕ → (counts : ReadCount) → Drive → List ℕ → State
reached m counts d st = standing (Restart (before_last m counts)) (Restart (last_at m counts)) d st

-- going round comes to a record where there is one besides R0
ahead_inside : (t : Track) (j : ℕ) → 1 < length t.records → ahead t j < length t.records
unfolding Drive.past_zero Drive.turn
ahead_inside t j more =
    let Inside : ℕ → Type 0 = λ n. n < length t.records in
    both Inside _ more (both_if Inside _ (λ e. ltb-true j _ e) (λ e. omega arith))

-- ---- one step

module _ (fs : List Fault) (w : Setting) (last l : Location) (d : Drive) (st : List ℕ) where
  step_got : (k : Location) (c : Ccw) (t : State) → resolve w.lent last l ≡ Ok (k, c) → carry fs st (execute w k c d st) ≡ goes t → step fs w (standing last l d st) ≡ goes t
  unfolding Step.step Step.plan Step.dispatch
  step_got k c t got does = rw (got, does)

  step_answer : (k : Location) (c : Ccw) (t : State) → resolve w.lent last l ≡ Ok (k, c) → execute w k c d st ≡ answer (goes t) → step fs w (standing last l d st) ≡ goes t
  unfolding Step.carry
  step_answer k c t got does = step_got k c t got (ap (carry fs st) does)

-- a CCW that is no TIC
got_plain : (w : Setting) (last l : Location) (c : Ccw) → fetch w.lent l ≡ Some c → is_tic c ≡ false → resolve w.lent last l ≡ Ok (l, c)
got_plain w last l c f plain = sym (plain_ccw w.lent last l (sym f) plain)

-- a TIC of a restart program, into that program and into the chain
target_restart : (k to : ℕ) → target (Restart k) (0x1000 + to) ≡ Restart to
unfolding target pick
target_restart k to = let e : 0x1000 + to - 0x1000 ≡ to = omega arith in rw (le-ltb (0x1000 + to) 0x1000 (omega arith), e)

target_chain : (k to : ℕ) → to < 0x1000 → target (Restart k) to ≡ Chain to
unfolding target pick
target_chain k to low = rw (lt-ltb to 0x1000)

-- ---- the program, command by command

module _ (fs : List Fault) (w : Setting) (a : Address) (sector r to : ℕ) (st : List ℕ) where
  abbrev w' : Option ℕ → ReadCount → Setting
  w' m counts = restarted w a m sector r counts to

  abbrev does : Option ℕ → ReadCount → State → Step.Answer
  does m counts = step fs (w' m counts)

  step_seek : (m : Option ℕ) (counts : ReadCount) → on_pack w.last a ≡ true
      → does m counts (start (Restart 0) st) ≡ goes (standing (Restart 0) (Restart 8) (placed a None 0 false) st)
  unfolding start Drive.initial is_tic
  step_seek m counts is_on_pack =
      step_answer fs (w' m counts) (Restart 0) (Restart 0) Drive.initial st (Restart 0) Commands.seek_ccw _
      (got_plain (w' m counts) (Restart 0) (Restart 0) _ (Commands.fetches w a sector r to m counts).seek refl)
      (Commands.execute_seek w a sector r to m counts 0 st Drive.initial refl is_on_pack)

  step_mask : (b : ℕ) (counts : ReadCount) → settable b ≡ true
      → does (Some b) counts (standing (Restart 0) (Restart 8) (placed a None 0 false) st) ≡ goes (standing (Restart 8) (Restart 16) (placed a (Some b) 0 false) st)
  unfolding is_tic
  step_mask b counts may =
      step_answer fs (w' (Some b) counts) (Restart 0) (Restart 8) (placed a None 0 false) st (Restart 8) Commands.mask_ccw _
      (got_plain (w' (Some b) counts) (Restart 0) (Restart 8) _ (Commands.fetch_mask w a sector r to b counts) refl)
      (Commands.execute_mask w a sector r to (Some b) counts 8 st (placed a None 0 false) b refl refl may)

  step_sector : (m : Option ℕ) (counts : ReadCount) (last : Location) → sector < 128
      → does m counts (standing last (Restart (sector_at m)) (placed a m 0 false) st) ≡ goes (standing (Restart (sector_at m)) (Restart (search_at m)) (placed a m 0 false) st)
  unfolding is_tic
  step_sector m counts last low =
      step_answer fs (w' m counts) last (Restart (sector_at m)) (placed a m 0 false) st (Restart (sector_at m)) Commands.sector_ccw _
      (got_plain (w' m counts) last (Restart (sector_at m)) _ (Commands.fetches w a sector r to m counts).sector refl)
      (Commands.execute_sector w a sector r to m counts (sector_at m) st (placed a m 0 false) low)

  pub to_search : (m : Option ℕ) (counts : ReadCount) → ((b : ℕ) → m ≡ Some b → settable b ≡ true) → on_pack w.last a ≡ true → sector < 128 → (n : ℕ)
      → run (does m counts) limit_of (controls m + n) (start (Restart 0) st) ≡ run (does m counts) limit_of n (standing (Restart (sector_at m)) (Restart (search_at m)) (placed a m 0 false) st)
  to_search None counts may is_on_pack low n =
      let F : State → Step.Answer = does None counts in
      rw (suc-add 1 n, suc-add 0 n, zero-add n)
      (run_goes F limit_of (suc n) _ _ (step_seek None counts is_on_pack)
      ∙ run_goes F limit_of n _ _ (step_sector None counts (Restart 0) low))
  to_search (Some b) counts may is_on_pack low n =
      let F : State → Step.Answer = does (Some b) counts in
      rw (suc-add 2 n, suc-add 1 n, suc-add 0 n, zero-add n)
      (run_goes F limit_of (suc (suc n)) _ _ (step_seek (Some b) counts is_on_pack)
      ∙ run_goes F limit_of (suc n) _ _ (step_mask b counts (may b refl))
      ∙ run_goes F limit_of n _ _ (step_sector (Some b) counts (Restart 8) low))

  -- ---- the searches

  got_again : (m : Option ℕ) (counts : ReadCount) (last : Location) → resolve (w' m counts).lent last (Restart (search_at m + 8)) ≡ Ok (Restart (search_at m), search_ccw)
  unfolding is_tic
  got_again m counts last =
      let holds = Commands.fetches w a sector r to m counts in
      sym (tic_lands (w' m counts).lent last (Restart (search_at m + 8)) (sym holds.again) refl (sym (target_restart (search_at m + 8) (search_at m))) (sym holds.search) refl)

  module _ (m : Option ℕ) (counts : ReadCount) (t : Track) (i : ℕ) (sought : Sought w a r t i) where
    -- a search at place j, up to the record's, equal or not
    step_search : (equal : Bool) (j : ℕ) (passed : Bool) (last l : Location) → resolve (w' m counts).lent last l ≡ Ok (Restart (search_at m), search_ccw)
        → j ≤ i → eqb r (get_or t.records j no_record).r ≡ equal
        → does m counts (standing last l (placed a m j passed) st)
        ≡ goes (standing (Restart (search_at m)) (Restart (pick equal (count_at m) (search_at m + 8))) (placed a m (j + 1) true) st)
    step_search equal j passed last l got up test =
        rw (← test)
        (step_answer fs (w' m counts) last l (placed a m j passed) st (Restart (search_at m)) search_ccw _ got
        (Commands.execute_search w a sector r to m counts (search_at m) st m t j passed sought.there (omega (arith, sought.inside)) (sought.own j (omega (arith, sought.inside)))))

    -- g places are before the record's
    search_loop : (g j : ℕ) → j + g ≡ i → (passed : Bool) (last l : Location) → resolve (w' m counts).lent last l ≡ Ok (Restart (search_at m), search_ccw) → (n : ℕ)
        → run (does m counts) limit_of (suc g + n) (standing last l (placed a m j passed) st)
        ≡ run (does m counts) limit_of n (standing (Restart (search_at m)) (Restart (count_at m)) (placed a m (i + 1) true) st)
    unfolding pick
    search_loop zero j e passed last l got n =
        let here : j ≡ i = omega arith in
        rw (suc-add zero n, zero-add n)
        (run_goes (does m counts) limit_of n _ _ (step_search true j passed last l got (omega arith) (rw here (eq-eqb r _ (sym sought.this)))) ∙ rw here refl)
    search_loop (suc g) j e passed last l got n =
        rw (suc-add (suc g) n)
        (run_goes (does m counts) limit_of (suc g + n) _ _ (step_search false j passed last l got (omega arith) (ne_eqb r _ (λ q. sought.others j (omega arith) (sym q))))
        ∙ search_loop g (j + 1) (omega arith) true (Restart (search_at m)) (Restart (search_at m + 8)) (got_again m counts (Restart (search_at m))) n)

    -- ---- up to the last TIC

    to_count : ((b : ℕ) → m ≡ Some b → settable b ≡ true) → sector < 128 → (n : ℕ)
        → run (does m counts) limit_of (controls m + (suc i + n)) (start (Restart 0) st)
        ≡ run (does m counts) limit_of n (standing (Restart (search_at m)) (Restart (count_at m)) (placed a m (i + 1) true) st)
    unfolding is_tic
    to_count may low n =
        to_search m counts may sought.is_on_pack low (suc i + n)
        ∙ search_loop i 0 (omega arith) false (Restart (sector_at m)) (Restart (search_at m))
        (got_plain (w' m counts) (Restart (sector_at m)) (Restart (search_at m)) search_ccw (Commands.fetches w a sector r to m counts).search refl) n

  -- the CCW of the read count
  got_count : (m : Option ℕ) (counts : ReadCount) (command : ℕ) → fetch (w' m counts).lent (Restart (count_at m)) ≡ Some (Commands.count_ccw command)
      → is_tic (Commands.count_ccw command) ≡ false
      → resolve (w' m counts).lent (Restart (search_at m)) (Restart (count_at m)) ≡ Ok (Restart (count_at m), Commands.count_ccw command)
  got_count m counts command held plain = got_plain (w' m counts) (Restart (search_at m)) (Restart (count_at m)) (Commands.count_ccw command) held plain

  got_multitrack : (m : Option ℕ)
      → resolve (w' m Multitrack).lent (Restart (search_at m)) (Restart (count_at m)) ≡ Ok (Restart (count_at m), Commands.count_ccw 0x92)
  unfolding is_tic
  got_multitrack m = got_count m Multitrack 0x92 (Commands.fetch_count_multitrack w a sector r to m) refl

  step_count : (m : Option ℕ) (t : Track) (i : ℕ) → Sought w a r t i
      → does m Single (standing (Restart (search_at m)) (Restart (count_at m)) (placed a m (i + 1) true) st)
      ≡ goes (reached m Single (placed a m (ahead t (i + 1) + 1) true) st)
  unfolding is_tic
  step_count m t i sought =
      step_got fs (w' m Single) (Restart (search_at m)) (Restart (count_at m)) (placed a m (i + 1) true) st (Restart (count_at m)) (Commands.count_ccw 0x12) _
      (got_count m Single 0x12 (Commands.fetch_count w a sector r to m) refl)
      (ap (carry fs st) (Commands.execute_count w a sector r to m Single (count_at m) st (placed a m (i + 1) true))
      ∙ Commands.carry_count w a sector r to m Single (count_at m) st 0x12 a m t (i + 1) true fs sought.there
      (ahead_inside t (i + 1) (omega (arith, sought.inside, sought.not_zero))))

  step_count_multitrack : (m : Option ℕ) (i : ℕ) (f : Found w.pack m 19 a (i + 1))
      → does m Multitrack (standing (Restart (search_at m)) (Restart (count_at m)) (placed a m (i + 1) true) st)
      ≡ goes (reached m Multitrack (placed f.at m (ahead f.track f.place + 1) true) st)
  unfolding Step.on_reached
  step_count_multitrack m i f =
      step_got fs (w' m Multitrack) (Restart (search_at m)) (Restart (count_at m)) (placed a m (i + 1) true) st (Restart (count_at m)) (Commands.count_ccw 0x92) _
      (got_multitrack m)
      (ap (carry fs st) (Commands.execute_count_multitrack w a sector r to m Multitrack (count_at m) st (placed a m (i + 1) true))
      ∙ rw f.behind_area (Commands.carry_count w a sector r to m Multitrack (count_at m) st 0x92 f.at m f.track f.place f.passed fs f.there f.inside))

  pub to_last : (m : Option ℕ) (counts : ReadCount) (t : Track) (i : ℕ) (d : Drive) → Before w a m t i counts d → Sought w a r t i
      → ((b : ℕ) → m ≡ Some b → settable b ≡ true) → sector < 128 → (n : ℕ)
      → run (does m counts) limit_of (commands m counts i + n) (start (Restart 0) st) ≡ run (does m counts) limit_of n (reached m counts d st)
  to_last m counts t i d before sought may low n =
      let e : controls m + (suc i + read_counts counts) + n ≡ controls m + (suc i + (read_counts counts + n)) = omega arith in
      rw e (to_count m counts t i sought may low (read_counts counts + n) ∙ by counts d before)
    where
      by : (counts : ReadCount) (d : Drive) → Before w a m t i counts d
          → run (does m counts) limit_of (read_counts counts + n) (standing (Restart (search_at m)) (Restart (count_at m)) (placed a m (i + 1) true) st)
          ≡ run (does m counts) limit_of n (reached m counts d st)
      by Omitted d searched = rw (zero-add n) refl
      by Single d counted_on_track = rw (suc-add 0 n, zero-add n) (run_goes (does m Single) limit_of n _ _ (step_count m t i sought))
      by Multitrack d (counted_on f) = rw (suc-add 0 n, zero-add n) (run_goes (does m Multitrack) limit_of n _ _ (step_count_multitrack m i f))

  -- the restart ends at its 92, where no record is ahead
  pub to_count_failed : (m : Option ℕ) (t : Track) (i : ℕ) (x : Step.Check) → Step.read_from w.pack 19 (placed a m (i + 1) true) ≡ fails x
      → Sought w a r t i → ((b : ℕ) → m ≡ Some b → settable b ≡ true) → sector < 128 → (n : ℕ)
      → run (does m Multitrack) limit_of (commands m Multitrack i + n) (start (Restart 0) st)
      ≡ ended (refused_at x (Restart (count_at m)) (Commands.count_ccw 0x92) (placed a m (i + 1) true) st)
  unfolding Step.step Step.plan Step.dispatch Step.carry Step.on_reached Step.refuse Step.refusal
  to_count_failed m t i x from sought may low n =
      let e : controls m + (suc i + 1) + n ≡ controls m + (suc i + suc n) = omega arith in
      rw e (to_count m Multitrack t i sought may low (suc n)
      ∙ run_ends (does m Multitrack) limit_of n _ _
      (rw (got_multitrack m, Commands.execute_count_multitrack w a sector r to m Multitrack (count_at m) st (placed a m (i + 1) true), from)))

-- ---- the last TIC, and the user's command behind it

module _ (w : Setting) (a : Address) (sector r to : ℕ) (st : List ℕ) (m : Option ℕ) (counts : ReadCount) (t : Track) (i : ℕ) (x : Ccw) (s : State) where
  got_last : Faultless w a m counts i to x st s
      → resolve (restarted w a m sector r counts to).lent (Restart (before_last m counts)) (Restart (last_at m counts)) ≡ Ok (Chain to, x)
  unfolding is_tic fetch
  got_last faultless =
      sym (tic_lands _ (Restart (before_last m counts)) (Restart (last_at m counts)) (sym (Commands.fetches w a sector r to m counts).last) refl
      (sym (target_chain (last_at m counts) to faultless.in_chain)) (sym faultless.held) faultless.plain)

  joins : (counts : ReadCount) (d : Drive) → Before w a m t i counts d → Counted x.command counts → track_in w.pack a ≡ Some t
      → execute w (Chain to) x d st ≡ execute w (Chain to) x (placed a m (i + 1) false) st
  joins Omitted d searched (omitted on n) there = execute_five w (Chain to) x st a m (i + 1) on
  joins Single d counted_on_track (single off n) there = execute_five_a w (Chain to) x st a m (i + 1) t there off n
  joins Multitrack d (counted_on f) (multitrack h) there = execute_five_a_multitrack w (Chain to) x st a m (i + 1) f h

  -- `local`: the user's command does not see the restart program
  pub plan_last : (d : Drive) → Before w a m t i counts d → track_in w.pack a ≡ Some t → Faultless w a m counts i to x st s
      → (local : (d : Drive) → execute (restarted w a m sector r counts to) (Chain to) x d st ≡ execute w (Chain to) x d st)
      → plan (restarted w a m sector r counts to) (reached m counts d st) ≡ plan w s
  unfolding Step.plan Step.dispatch
  plan_last d before there faultless local =
      rw (got_last faultless, faultless.comes, faultless.drive, faultless.storage)
      (local d ∙ joins counts d before (rw (← faultless.counted) (counted x.command)) there)

  pub resumes : (fs : List Fault) (d : Drive) → Before w a m t i counts d → Sought w a r t i → Faultless w a m counts i to x st s
      → (local : (d : Drive) → execute (restarted w a m sector r counts to) (Chain to) x d st ≡ execute w (Chain to) x d st)
      → ((b : ℕ) → m ≡ Some b → settable b ≡ true) → sector < 128 → (n : ℕ)
      → (run (step fs (restarted w a m sector r counts to)) limit_of (commands m counts i + suc n) (start (Restart 0) st)
      ≡ run (step fs (restarted w a m sector r counts to)) limit_of (suc n) (reached m counts d st))
      × (step fs (restarted w a m sector r counts to) (reached m counts d st) ≡ step fs w s)
  unfolding Step.step
  resumes fs d before sought faultless local may low n =
      (to_last fs w a sector r to st m counts t i d before sought may low (suc n), rw (plan_last d before sought.there faultless local, faultless.storage))
