-- Every cut of a reading that may begin is mended: closed where the faultless run ends there, restarted where it goes on. A restart comes back to the
-- chain, but where the chain's next command is an 86 or 8E that ends by a step, which the restart's 92 does before it.
--   settled_ends, settled_goes   what a faultless read says by its answer
--   areas_limit                  the command limit of a reading that may begin
--   Good                         an end that is no program check
--   Fine                         what holds before each command of the faultless run
--   closes                       a cut where the faultless run ends
--   goes_on                      a cut where it goes on
use Rattle.std.specs.Prelude.{Option, Some, None, Result, Ok, Err}
use Prim.Native.Nat.{ℕ, zero, suc, ◌+◌, ◌-◌, ◌%◌, ◌≤◌}
use native.Mathlib.Omega.{arith}
use mathlib.Core.Path.{◌≡◌, refl, ap, sym, ◌∙◌}
use mathlib.Core.Bool.{Bool, true, false, ◌&&◌, ◌||◌, not}
use mathlib.Core.List.{List, []}
use lib.Dec.{eqb, leb}
use lib.ListN.{length}
use borrow.Author.Tests.{leb-true}
use Rattle.base.specs.Choice.{pick, opt}
use Rattle.base.specs.Bits.{bit_on}
use Rattle.base.specs.Bytes.{two, three}
use Rattle.base.proofs.Choice.{split, and_left, and_right}
use Rattle.questions.specs.Areas.{chain_fits, arguments_fit, storage_fits, image_fits, faults_fit, limit_fits, run_areas, restart_limit}
use Rattle.address.specs.declared.Address.{Address}
use Rattle.address.specs.Within.{extent_of}
use Rattle.faults.specs.Faults.{Fault}
use Rattle.abstract_machine.specs.Machine.{goes, ends, cuts, Result as RunResult, ended, run}
use Rattle.abstract_machine.specs.Reading.{finish, restart}
use Rattle.abstract_machine.proofs.Run.{run_ends}
use Rattle.abstract_machine.proofs.Whole.{Mended, Closed, Strayed, GoesOn, mended, strayed}
use Rattle.channel.specs.declared.Ccw.{Ccw}
use Rattle.channel.specs.declared.Location.{Location}
use Rattle.channel.specs.declared.Location.TheVariants.{Chain, Restart}
use Rattle.channel.specs.Ccw.{chains_command, is_tic, next, resolve}
use Rattle.channel.specs.Store.{store}
use Rattle.channel.specs.Walk.{Walk, walked, checked, incorrect_length}
use Rattle.channel.proofs.InChain.{InChain, FetchedIn, next_in, resolve_in, resolve_same}
use Rattle.channel.proofs.Walks.{resolve_got}
use Rattle.channel.proofs.Shown.{fetched_inside}
use Rattle.drive.specs.Drive as Drive
use Rattle.drive.specs.Drive.{Drive, address_bytes}
use Rattle.drive.specs.Step as Step
use Rattle.channel.specs.Csw.{csw_at}
use Rattle.drive.specs.Step.{State, End, Cut, Answer, fails, answer, Setting, plan, step, no_sense, length_status, settled, faulted, onward, program_check, settable}
use Rattle.drive.specs.Run.{Limit, limit_of, run_from, tic_first}
use Rattle.drive.proofs.Steps as Steps
use Rattle.drive.proofs.Origin as Origin
use Rattle.drive.specs.Command.{command_of}
use Rattle.drive.proofs.Multitrack.{refused_at}
use Rattle.drive.proofs.Local.{execute_local, run_joins}
use Rattle.restart.specs.declared.ReadCount.{ReadCount}
use Rattle.restart.specs.declared.ReadCount.TheVariants.{Omitted, Single, Multitrack}
use Rattle.restart.specs.Restart.{count_place, is_multitrack_data, count_for, ccw_bytes, program_ending, program_of, search_program, search_arguments, restart_arguments_of, padded}
use Rattle.restart.proofs.Commands as Commands
use Rattle.restart.proofs.Commands.{placed, ahead}
use Rattle.restart.proofs.Join as Join
use Rattle.restart.proofs.Join.{Counted, omitted, single, multitrack, counted, Found, Ahead, finds, ahead_of, execute_failed}
use Rattle.restart.proofs.Reach.{Sought, Faultless, commands, commands_few, Before, searched, counted_on_track, counted_on, to_count_failed, resumes}
use Rattle.recovery.specs.Table.{rows}
use Rattle.recovery.specs.Recovery as Recovery
use Rattle.recovery.specs.Recovery.{Given, fetch_mode, only_chain, seek_allowed, five, five_a}
use Rattle.demand_three.specs.WholeReading.{Restarted, entry_of, answered, recover_cut, restarted_in, restarted_run, final, given_in}
use Rattle.demand_three.specs.Demand.{Lending, setting_of, Begins, all_inside, takes_faulted, is_failed, step_fails, ends_by_step, at_count, Named, recovered, SeeksInside}
use Rattle.demand_three.proofs.Genuine.{Genuine, cut_at, finishes, restarts_with}
use Rattle.demand_three.proofs.Hits.{flag, Hit, hit}

-- ---- the answer of a faultless read

module _ (bs : List ℕ) (d : Drive) (st : List ℕ) (ps : List (Option ℕ)) (z : Location) (c : Ccw) (left : ℕ) (over : Bool) where
  abbrev wrong : Bool
  wrong = incorrect_length c left over

  abbrev on : State
  on = record { at = next z; last = z; left = left; drive = d; storage = store ps bs st }

  abbrev off : ℕ → End
  off channel = record { csw = csw_at z 0x0c channel left; sense = no_sense; mask = d.mask; storage = store ps bs st }

  settled_is : settled bs d st (walked ps z c left over) ≡ pick (wrong || not (chains_command c)) (ends (off (length_status wrong))) (goes on)
  unfolding settled onward length_status pick
  settled_is = split wrong (λ e. rw e) (λ e. rw e (split (chains_command c) (λ f. rw f) (λ f. rw f)))

  pub settled_ends : (e : End) → settled bs d st (walked ps z c left over) ≡ ends e
      → ((wrong || not (chains_command c)) ≡ true) × (final e ≡ record { csw = csw_at z 0x0c (length_status wrong) left; storage = store ps bs st })
  unfolding final pick
  settled_ends e h =
      split (wrong || not (chains_command c))
      (λ q. let v : ◌≡◌ {A = Answer} (ends (off (length_status wrong))) (ends e) = rw q at (sym settled_is ∙ h) in let u : off (length_status wrong) ≡ e = cc in (q, rw (← u)))
      (λ q. let v : ◌≡◌ {A = Answer} (goes on) (ends e) = rw q at (sym settled_is ∙ h) in let x : ◌≡◌ {A = ℕ} 0 1 = cc in absurd (omega arith))

  pub settled_goes : (t : State) → settled bs d st (walked ps z c left over) ≡ goes t → ((wrong || not (chains_command c)) ≡ false) × (on ≡ t)
  unfolding pick
  settled_goes t h =
      split (wrong || not (chains_command c))
      (λ q. let v : ◌≡◌ {A = Answer} (ends (off (length_status wrong))) (goes t) = rw q at (sym settled_is ∙ h) in let x : ◌≡◌ {A = ℕ} 0 1 = cc in absurd (omega arith))
      (λ q. let v : ◌≡◌ {A = Answer} (goes on) (goes t) = rw q at (sym settled_is ∙ h) in (q, (cc)))

-- ---- the place of the read count

count_place_lem : (m : Option ℕ) → count_place m ≡ Commands.count_at m
unfolding count_place
count_place_lem None = refl
count_place_lem (Some b) = refl

-- ---- the lent areas

module _ (chain arguments storage image faults limit : ℕ) (h : run_areas chain arguments storage image faults limit ≡ true) where
  areas_chain : chain ≤ 2048
  unfolding run_areas chain_fits
  areas_chain =
      let with_faults = and_left (chain_fits chain && arguments_fit arguments && storage_fits storage && image_fits image && faults_fit faults) (limit_fits limit) h in
      let with_image = and_left (chain_fits chain && arguments_fit arguments && storage_fits storage && image_fits image) (faults_fit faults) with_faults in
      let with_storage = and_left (chain_fits chain && arguments_fit arguments && storage_fits storage) (image_fits image) with_image in
      let with_arguments = and_left (chain_fits chain && arguments_fit arguments) (storage_fits storage) with_storage in
      let fits = and_left (chain_fits chain) (arguments_fit arguments) with_arguments in
      leb-true chain 2048 (and_right (leb 8 chain) (leb chain 2048) (and_left (leb 8 chain && leb chain 2048) (eqb (chain % 8) 0) fits))

  pub areas_limit : limit ≤ 4096
  unfolding run_areas limit_fits
  areas_limit =
      leb-true limit 4096 (and_right (leb 1 limit) (leb limit 4096)
      (and_right (chain_fits chain && arguments_fit arguments && storage_fits storage && image_fits image && faults_fit faults) (limit_fits limit) h))

-- ---- the drive behind a read

drive_is : (d e : Drive) (i : ℕ) (a : Address) → e ≡ Drive.moved_past d i false 0 → d.at ≡ a → e ≡ placed a e.mask (i + 1) false
unfolding Drive.moved_past
drive_is d e i a h q = rw (h, ← q) refl

-- ---- the command that comes next, by its CCW and the drive before it

module _ (w : Setting) (s : State) (l : Location) (c : Ccw) (d : Drive) (comes : resolve w.lent s.last s.at ≡ Ok (l, c)) (stands : s.drive ≡ d) where
  plan_at : plan w s ≡ Step.execute w l c d s.storage
  unfolding plan Step.dispatch
  plan_at = rw (comes, stands)

  -- whether it is one that ends by a step
  marked_at : d.passed ≡ false → ends_by_step w s ≡ (is_multitrack_data c.command && is_failed (Step.read_from w.pack 19 d))
  unfolding ends_by_step step_fails Step.take_from pick
  marked_at h = rw (comes, stands, h)

-- ---- readings

-- "not by a program check"
abbrev pub Good : End → Type 0
Good e = e.csw.channel ≡ 0x20 → ⊥

-- a program check's answer
abbrev checked_at : Location → Drive → List ℕ → End
checked_at l d st = record { csw = csw_at l 0 0x20 0; sense = no_sense; mask = d.mask; storage = st }

ends_is : {a b : End} → ◌≡◌ {A = Answer} (ends a) (ends b) → a ≡ b
ends_is q = cc

pub ended_is : {a b : End} → ◌≡◌ {A = RunResult Limit End Cut} (ended a) (ended b) → a ≡ b
ended_is q = cc

pub checked_channel : (l : Location) (d : Drive) (st : List ℕ) (e : End) → program_check l d st ≡ ends e → e.csw.channel ≡ 0x20
unfolding program_check csw_at
checked_channel l d st e h = let k : checked_at l d st ≡ e = ends_is h in rw (← k) refl

module _ (g : Lending) (b : Begins g) (inside : all_inside (extent_of g.model g.extent) g.faults ≡ true) where
  abbrev fs : List Fault
  fs = g.faults

  abbrev w : Setting
  w = setting_of g

  abbrev given : Given
  given = given_in w rows (extent_of g.model g.extent)

  chain_short : length w.lent.chain ≤ 4096
  unfolding setting_of
  chain_short = let v = areas_chain (length g.chain) _ _ _ _ _ b.areas in omega arith

  abbrev pub clean : State → Answer
  clean = step [] w

  abbrev pub faulty : State → Answer
  faulty = step fs w

  -- before each command of the faultless run
  pub record Fine (s : State) : Type 0 where
    pub calm : fetch_mode s.drive.mask ≡ false
    pub here : InChain s.at
    pub legal_mask : Origin.legal s.drive.mask

  module _ (s : State) (fine : Fine s) (h : Named) (H : Hit g s h) where
    clean_is : clean s ≡ settled H.t.bytes H.t.after s.storage H.t.walk
    clean_is = Steps.step_settled w s H.t H.y H.planned H.area_is

    faulty_is : faulty s ≡ faulted H.t.first H.y H.f H.t.bytes H.t.after s.storage H.t.walk
    faulty_is = Steps.step_faulted w s H.t H.y H.planned H.area_is fs H.f H.named

    calm_after : fetch_mode H.t.after.mask ≡ false
    calm_after = rw H.from.mask_is fine.calm

    module _ (ps : List (Option ℕ)) (z : Location) (c : Ccw) (left : ℕ) (over : Bool) (walk_is : H.t.walk ≡ walked ps z c left over) where
      genuine : Genuine w s H.t H.y H.f ps z c left over
      genuine = record {
        from = H.from;
        area_is = H.area_is;
        walk_is = walk_is;
        here = fine.here;
        some_way = H.some_way;
        in_read = H.in_read;
        short = H.short;
        three = H.three;
      }

      abbrev cut_is : Cut
      cut_is = cut_at s H.t H.y H.f ps z c left over

      is_cut : faulty s ≡ cuts cut_is
      unfolding faulted
      is_cut = faulty_is ∙ ap (faulted H.t.first H.y H.f H.t.bytes H.t.after s.storage) walk_is

      settles : {a : Answer} → clean s ≡ a → settled H.t.bytes H.t.after s.storage (walked ps z c left over) ≡ a
      settles e = sym (clean_is ∙ ap (settled H.t.bytes H.t.after s.storage) walk_is) ∙ e

      closed_at : (e : End) → clean s ≡ ends e → Closed faulty limit_of (restarted_run fs w) (recover_cut given) final recovered restart_limit 260 (SeeksInside (extent_of g.model g.extent)) h s e
      unfolding recover_cut answered given_in recovered entry_of
      closed_at e q =
          let f = settled_ends H.t.bytes H.t.after s.storage ps z c left over e (settles q) in
          record {
            report = cut_is;
            entry = entry_of five cut_is;
            is_cut = is_cut;
            noted = sym H.name_is;
            done =
                ap (answered cut_is) (finishes w s H.t H.y H.f ps z c left over genuine given refl refl calm_after f.0)
                ∙ ap (finish (entry_of five cut_is)) (sym f.1);
          }

      -- ---- a cut where the chain goes on

      ends_in_chain : InChain z
      ends_in_chain = rw walk_is at (Origin.ends_in w s H.t H.from fine.here)

      abbrev st : List ℕ
      st = store ps H.t.bytes s.storage

      abbrev behind : State
      behind = on H.t.bytes H.t.after s.storage ps z c left over

      abbrev m : Option ℕ
      m = H.t.after.mask

      module _ (more : (incorrect_length c left over || not (chains_command c)) ≡ false) (to : ℕ) (d : Ccw) (comes : resolve w.lent z (next z) ≡ Ok (Chain to, d)) where
        abbrev counts : ReadCount
        counts = count_for d.command

        abbrev first : Restarted
        first = record { program = search_program m counts to; restart_arguments = search_arguments H.y.at m 0 H.y.r; storage = st }

        abbrev kind : Recovery.Kind
        kind = pick (bit_on 3 d.command) five five_a

        allowed : seek_allowed given H.y.at ≡ true
        unfolding seek_allowed given_in setting_of
        allowed = rw (H.is_on_pack, H.inside)

        comes_alone : resolve (only_chain given.chain) z (next z) ≡ Ok (Chain to, d)
        unfolding only_chain given_in
        comes_alone = resolve_same w.lent [] [] [] z (next z) (next_in z ends_in_chain) ∙ comes

        rebuilt : recover_cut given cut_is ≡ restart (entry_of kind cut_is) first
        unfolding recover_cut answered given_in
        rebuilt = ap (answered cut_is) (restarts_with w s H.t H.y H.f ps z c left over genuine given refl refl calm_after more to d comes_alone allowed)

        sought : Sought w H.y.at H.y.r H.track H.place
        unfolding setting_of
        sought = record {
          is_on_pack = H.is_on_pack;
          there = H.there;
          inside = H.below;
          not_zero = H.not_zero;
          own = H.own;
          this = H.this;
          others = H.others;
        }

        faultless : Faultless w H.y.at m counts H.place to d st behind
        unfolding setting_of
        faultless =
            let got = resolve_got w.lent z (next z) (Chain to) d comes in
            record {
              drive = drive_is H.reached H.t.after H.place H.y.at H.after_is H.reached_at;
              storage = refl;
              comes = comes;
              held = got.0;
              plain = got.1;
              in_chain = omega (arith, fetched_inside w.lent (Chain to) d got.0, chain_short);
              counted = refl;
            }

        may : (b : ℕ) → m ≡ Some b → settable b ≡ true
        may = Origin.legal_set m (rw H.from.mask_is fine.legal_mask)

        abbrev used : ℕ
        used = commands m counts H.place

        -- with the drive x before the last TIC
        module _ (x : Drive) (before : Before w H.y.at m H.track H.place counts x) where
          comes_back : (n : ℕ) → used + suc n ≡ restart_limit → restarted_run fs w first ≡ run faulty limit_of (suc n) behind
          unfolding restarted_run restarted_in run_from tic_first is_tic opt pick
          comes_back n e =
              let r = resumes w H.y.at 0 H.y.r to st m counts H.track H.place d behind fs x before sought faultless
              (λ y. execute_local w first.program first.restart_arguments (Chain to) d y st tt) may (omega arith) n in
              rw ((Commands.fetches w H.y.at 0 H.y.r to m counts).seek, ← e)
              (r.0 ∙ run_joins fs w first.program first.restart_arguments n _ behind r.1 (next_in z ends_in_chain))

          mended_at : Mended faulty limit_of (restarted_run fs w) (recover_cut given) final recovered restart_limit 260 (SeeksInside (extent_of g.model g.extent)) h s behind
          unfolding extent_of recovered entry_of search_program program_of program_ending search_arguments restart_arguments_of padded ccw_bytes address_bytes two three
          mended_at = record {
            report = cut_is;
            entry = entry_of kind cut_is;
            first = first;
            used = used;
            is_cut = is_cut;
            built = rebuilt;
            noted = sym H.name_is;
            few = omega (arith, commands_few m counts H.place, H.below, H.few);
            inside = record { track = H.y.at; seek = refl; argument = refl; is_on_pack = H.is_on_pack; inside = H.inside };
            reaches = comes_back;
          }

        -- the drive behind the faultless read
        abbrev after : Drive
        after = placed H.y.at m (H.place + 1) false

        plan_behind : plan w behind ≡ Step.execute w (Chain to) d after st
        plan_behind = plan_at w behind (Chain to) d after comes faultless.drive

        marked_is : ends_by_step w behind ≡ (is_multitrack_data d.command && is_failed (Step.read_from w.pack 19 after))
        marked_is = marked_at w behind (Chain to) d after comes faultless.drive refl

        -- ---- where its 92 fails

        module _ (x : Step.Check) (is : (p : Bool) → Step.read_from w.pack 19 (placed H.y.at m (H.place + 1) p) ≡ fails x)
            (this : is_multitrack_data d.command ≡ true) (counts_is : counts ≡ Multitrack) where
          -- so does the chain's command
          abbrev end_there : End
          end_there = refused_at x (Chain to) d after st

          plan_there : Step.sound w.lent (Chain to) (length st) d (command_of d.command) ≡ true → plan w behind ≡ answer (ends end_there)
          unfolding Step.refuse Step.refusal
          plan_there ok = plan_behind ∙ execute_failed w (Chain to) d st H.y.at m (H.place + 1) x (is false) this ok

          -- unless it makes a program check
          checked_there : Step.sound w.lent (Chain to) (length st) d (command_of d.command) ≡ false → clean behind ≡ ends (checked_at (Chain to) after st)
          unfolding step Step.carry Step.execute program_check pick
          checked_there bad = rw (plan_behind, bad)

          strays : restarted_run fs w first ≡ ended (at_count end_there)
          unfolding restarted_run restarted_in run_from tic_first is_tic opt pick at_count csw_at
          strays =
              let n : ℕ = restart_limit - commands m Multitrack H.place in
              let e : commands m Multitrack H.place + n ≡ restart_limit = omega (arith, commands_few m Multitrack H.place, H.below, H.few) in
              rw (counts_is, (Commands.fetches w H.y.at 0 H.y.r to m Multitrack).seek, ← e, count_place_lem m)
              (to_count_failed fs w H.y.at 0 H.y.r to st m H.track H.place x (is true) sought may (omega arith) n)

          strayed_at : Strayed faulty limit_of (restarted_run fs w) (recover_cut given) final recovered restart_limit 260 (SeeksInside (extent_of g.model g.extent)) h s (at_count end_there)
          unfolding extent_of recovered entry_of search_program program_of program_ending search_arguments restart_arguments_of padded ccw_bytes address_bytes two three
          strayed_at = record {
            report = cut_is;
            entry = entry_of kind cut_is;
            first = first;
            is_cut = is_cut;
            built = rebuilt;
            noted = sym H.name_is;
            inside = record { track = H.y.at; seek = refl; argument = refl; is_on_pack = H.is_on_pack; inside = H.inside };
            comes = strays;
          }

    -- ---- by the walk

    abbrev Closes : End → Type 0
    Closes e = Closed faulty limit_of (restarted_run fs w) (recover_cut given) final recovered restart_limit 260 (SeeksInside (extent_of g.model g.extent)) h s e

    -- what comes of a cut where the chain goes on at t, and ends with e
    abbrev Goes : State → End → Type 0
    Goes t e =
        GoesOn faulty limit_of (restarted_run fs w) (recover_cut given) final recovered restart_limit 260 (SeeksInside (extent_of g.model g.extent))
        clean (flag fs w) (takes_faulted g) (ends_by_step w) at_count h s t e (ends_by_step w t)

    closes_hit : (e : End) → clean s ≡ ends e → Good e → Closes e
    unfolding settled
    closes_hit e q good = by H.t.walk refl
      where
        by : (v : Walk) → H.t.walk ≡ v → Closes e
        by (walked ps z c left over) u = closed_at ps z c left over u e q
        by (checked ps l) u =
            absurd (good (checked_channel l H.t.after (store ps H.t.bytes s.storage) e
            (sym (clean_is ∙ ap (settled H.t.bytes H.t.after s.storage) u) ∙ q)))

    -- a chain that breaks behind the read ends by a program check
    breaks : (t : State) (l : Location) → resolve w.lent t.last t.at ≡ Err l → clean t ≡ ends (checked_at l t.drive t.storage)
    unfolding step Step.carry plan Step.dispatch program_check
    breaks t l e = rw e

    -- what a run ends with whose first command ends it
    ended_by : (t : State) (x : End) → clean t ≡ ends x → (n : ℕ) (e : End) → run clean limit_of n t ≡ ended e → x ≡ e
    unfolding run
    ended_by t x there zero e q = let z : ◌≡◌ {A = ℕ} 0 1 = cc in absurd (omega arith)
    ended_by t x there (suc n) e q = ended_is (sym (run_ends clean limit_of n t x there) ∙ q)

    -- a good run does not end so
    unchecked : {A : Type 0} (t : State) (l : Location) (d : Drive) (st : List ℕ) → clean t ≡ ends (checked_at l d st) → (n : ℕ) (e : End) → run clean limit_of n t ≡ ended e → Good e → A
    unfolding csw_at
    unchecked t l d st there n e q good = absurd (good (rw (← (ended_by t (checked_at l d st) there n e q)) refl))

    module _ (t : State) (q : clean s ≡ goes t) (n : ℕ) (e : End) (rest : run clean limit_of n t ≡ ended e) (good : Good e) where
      module _ (ps : List (Option ℕ)) (z : Location) (c : Ccw) (left : ℕ) (over : Bool) (u : H.t.walk ≡ walked ps z c left over) where
        parts : ((incorrect_length c left over || not (chains_command c)) ≡ false) × (behind ps z c left over u ≡ t)
        parts = settled_goes H.t.bytes H.t.after s.storage ps z c left over t (settles ps z c left over u q)

        rest_is : run clean limit_of n (behind ps z c left over u) ≡ ended e
        rest_is = rw (← parts.1) at rest

        module _ (to : ℕ) (d : Ccw) (v : resolve w.lent z (next z) ≡ Ok (Chain to, d)) where
          abbrev here : State
          here = behind ps z c left over u

          unmarked : is_multitrack_data d.command ≡ false → ends_by_step w here ≡ false
          unmarked h = marked_is ps z c left over u parts.0 to d v ∙ rw h

          mended_by : (x : Drive) → Before w H.y.at H.t.after.mask H.track H.place (count_for d.command) x → ends_by_step w here ≡ false → Goes here e
          mended_by x before off = rw off (mended (mended_at ps z c left over u parts.0 to d v x before))

          -- a record is ahead of an 86 or 8E
          not_failed : is_multitrack_data d.command ≡ true → Found w.pack H.t.after.mask 19 H.y.at (H.place + 1) → ends_by_step w here ≡ false
          unfolding is_failed
          not_failed this f = marked_is ps z c left over u parts.0 to d v ∙ rw (this, f.behind_record)

          -- or none is
          stray : is_multitrack_data d.command ≡ true → count_for d.command ≡ Multitrack → (x : Step.Check)
              → ((p : Bool) → Step.read_from w.pack 19 (placed H.y.at H.t.after.mask (H.place + 1) p) ≡ fails x)
              → Step.sound w.lent (Chain to) (length here.storage) d (command_of d.command) ≡ true → Goes here e
          unfolding is_failed step Step.carry flag Step.area_in opt
          stray this k x is ok =
              let planned = plan_there ps z c left over u parts.0 to d v x is this k ok in
              let there : clean here ≡ ends (end_there ps z c left over u parts.0 to d v x is this k) = ap (Step.carry [] here.storage) planned in
              let same = ended_by here (end_there ps z c left over u parts.0 to d v x is this k) there n e rest_is in
              rw (marked_is ps z c left over u parts.0 to d v, this, is false)
              (strayed (rw (← same) there) (rw planned) (rw (← same) (strayed_at ps z c left over u parts.0 to d v x is this k)))

          by_count : (k : ReadCount) → count_for d.command ≡ k → Counted d.command k → Goes here e
          by_count Omitted k (omitted bit other) = mended_by (placed H.y.at H.t.after.mask (H.place + 1) true) (rw k searched) (unmarked other)
          by_count Single k (single bit other) = mended_by (placed H.y.at H.t.after.mask (ahead H.track (H.place + 1) + 1) true) (rw k counted_on_track) (unmarked other)
          by_count Multitrack k (multitrack this) = by (ahead_of w.pack H.t.after.mask 19 H.y.at (H.place + 1))
            where
              by : Ahead w.pack H.t.after.mask 19 H.y.at (H.place + 1) → Goes here e
              by (finds f) = mended_by (placed f.at H.t.after.mask (ahead f.track f.place + 1) true) (rw k (counted_on f)) (not_failed this f)
              by (Join.ends x is) =
                  split (Step.sound w.lent (Chain to) (length here.storage) d (command_of d.command))
                  (stray this k x is)
                  (λ bad. unchecked here (Chain to) (after ps z c left over u parts.0 to d v) here.storage (checked_there ps z c left over u parts.0 to d v x is this k bad) n e rest_is good)

        next_by : (k : Result (Location × Ccw) Location) → resolve w.lent z (next z) ≡ k → FetchedIn k → Goes t e
        next_by (Ok (Chain to, d)) v i = rw (← parts.1) (by_count to d v (count_for d.command) refl (counted d.command))
        next_by (Ok (Restart to, d)) v i = absurd i
        next_by (Err l) v i = unchecked (behind ps z c left over u) l H.t.after (store ps H.t.bytes s.storage) (breaks (behind ps z c left over u) l v) n e rest_is good

      goes_hit : Goes t e
      unfolding settled program_check
      goes_hit = by H.t.walk refl
        where
          by : (v : Walk) → H.t.walk ≡ v → Goes t e
          by (walked ps z c left over) u =
              next_by ps z c left over u (resolve w.lent z (next z)) refl (resolve_in w.lent z (next z) (next_in z (ends_in_chain ps z c left over u)))
          by (checked ps l) u =
              let v : ◌≡◌ {A = Answer} (ends (checked_at l H.t.after (store ps H.t.bytes s.storage))) (goes t) =
              sym (clean_is ∙ ap (settled H.t.bytes H.t.after s.storage) u) ∙ q in
              let x : ◌≡◌ {A = ℕ} 0 1 = cc in absurd (omega arith)

  pub closes : (h : Named) (s : State) (e : End) → Fine s → flag fs w s ≡ Some h → clean s ≡ ends e → Good e
      → Closed faulty limit_of (restarted_run fs w) (recover_cut given) final recovered restart_limit 260 (SeeksInside (extent_of g.model g.extent)) h s e
  closes h s e fine f q good = closes_hit s fine h (hit g b inside s h f) e q good

  pub goes_on : (h : Named) (s t : State) (n : ℕ) (e : End) → Fine s → flag fs w s ≡ Some h → clean s ≡ goes t → run clean limit_of n t ≡ ended e → Good e
      → GoesOn faulty limit_of (restarted_run fs w) (recover_cut given) final recovered restart_limit 260 (SeeksInside (extent_of g.model g.extent))
      clean (flag fs w) (takes_faulted g) (ends_by_step w) at_count h s t e (ends_by_step w t)
  goes_on h s t n e fine f q rest good = goes_hit s fine h (hit g b inside s h f) t q n e rest good
