-- The restart from the report of a protected step seeks the track behind the head reached.
--   first_of           the step is the first that the command would make
--   no_seek            the command is no seek
--   ended_by           the end that it makes
--   goes_on_behind     the restart
--   eight_ten_stay     actions 8 and 10, whatever sense byte 6 holds
use Rattle.std.specs.Prelude.{Some}
use Prim.Native.Nat.{ℕ, ◌+◌, ◌-◌, ◌<◌}
use native.Mathlib.Omega.{arith}
use mathlib.Core.Path.{◌≡◌, refl, ap, sym, ◌∙◌}
use mathlib.Core.Bool.{true, false, ◌&&◌, not}
use mathlib.Core.List.{List}
use lib.Dec.{eqb}
use lib.ListN.{length, get_or}
use borrow.Author.Tests.{le-leb, ne_eqb}
use Rattle.base.specs.Choice.{pick, opt}
use Rattle.base.proofs.Choice.{split, found}
use Rattle.questions.specs.declared.Question.TheVariants as Question
use Rattle.address.specs.declared.Address.{Address}
use Rattle.pack.specs.Pack.{Track}
use Rattle.faults.specs.Faults.{Fault}
use Rattle.abstract_machine.specs.Machine.{ends}
use Rattle.channel.specs.declared.Ccw.{Ccw}
use Rattle.channel.specs.declared.Csw.{Csw}
use Rattle.channel.specs.declared.Location.{Location}
use Rattle.channel.specs.declared.Location.TheVariants.{Chain}
use Rattle.channel.specs.Ccw.{chains_data, address_of, fetch_in, fetch, is_tic}
use Rattle.channel.specs.Csw.{csw_at}
use Rattle.channel.proofs.Walks.{resolve_got}
use Rattle.drive.specs.declared.Command.{Command}
use Rattle.drive.specs.declared.Command.TheVariants.{SearchIdMultitrack, ReadMultitrack, NoOperation, ReadHome, ReadRecord, SearchId, Seek, SetMask, SetSector, Unlisted}
use Rattle.drive.specs.Command.{command_of}
use Rattle.drive.specs.Drive.{Drive, at_index}
use Rattle.drive.specs.Step as Step
use Rattle.drive.specs.Step.{State, End, rejected, protected_step, check_sense, no_sense, Setting}
use Rattle.drive.proofs.Multitrack.{search_first, take_first, refused_at}
use Rattle.recovery.specs.Table as Table
use Rattle.recovery.specs.Table.{rows, action_for}
use Rattle.recovery.specs.Report.{Report}
use Rattle.recovery.specs.Recovery as Recovery
use Rattle.recovery.specs.Recovery.{Given, is_seek, user_track, interrupted, reached_head, reached_track, next_track}
use Rattle.head_reached.specs.Head.{MeetsMask, by_search, by_read, ProtectedEnd, restart_at, GoesOnBehind, with_six, EightTenStay}

-- ---- the command

module _ (pack : List Track) (d : Drive) (head : ℕ) where
  first_of : (k : Command) → MeetsMask pack d head k → (head ≡ d.at.head) × (head < 18)
  first_of SearchIdMultitrack (by_search q) = let h = rw q at (search_first pack d) in (h.1, h.2)
  first_of (ReadMultitrack k) (by_read _ q) = let h = rw q at (take_first pack k.just d) in (h.1, h.2)
  first_of NoOperation x' = elim x' [ ]
  first_of Seek x'' = elim x'' [ ]
  first_of SetMask x3 = elim x3 [ ]
  first_of SetSector x4 = elim x4 [ ]
  first_of SearchId x5 = elim x5 [ ]
  first_of ReadHome x6 = elim x6 [ ]
  first_of (ReadRecord _) x8 = elim x8 [ ]
  first_of Unlisted x8 = elim x8 [ ]

  no_seek : (k : Command) → MeetsMask pack d head k → is_seek k ≡ false
  unfolding is_seek
  no_seek SearchIdMultitrack (by_search q) = refl
  no_seek (ReadMultitrack k) (by_read _ q) = refl
  no_seek NoOperation x' = elim x' [ ]
  no_seek Seek x'' = elim x'' [ ]
  no_seek SetMask x3 = elim x3 [ ]
  no_seek SetSector x4 = elim x4 [ ]
  no_seek SearchId x5 = elim x5 [ ]
  no_seek ReadHome x6 = elim x6 [ ]
  no_seek (ReadRecord _) x8 = elim x8 [ ]
  no_seek Unlisted x8 = elim x8 [ ]

-- ---- its end

-- the second sense byte of a protected step
second_is : (e : End) (head : ℕ) → e.sense ≡ check_sense (protected_step head) → get_or e.sense 1 0 ≡ 4
unfolding check_sense
second_is e head h = rw h

module _ (w : Setting) (l : Location) (c : Ccw) (d : Drive) (st : List ℕ) (e : End) (head : ℕ) (sensed : e.sense ≡ check_sense (protected_step head)) where
  -- an end with another second byte
  no_other : (x : End) → ◌≡◌ {A = Step.Answer} (ends x) (ends e) → (get_or x.sense 1 0 ≡ 4 → ⊥) → {P : Type 0} → P
  no_other x q h = let same : x ≡ e = cc in absurd (h (rw same (second_is e head sensed)))

  refused : ◌≡◌ {A = Step.Answer} (ends (refused_at (protected_step head) l c d st)) (ends e) → e ≡ refused_at (protected_step head) l c d st
  refused q = let same : refused_at (protected_step head) l c d st ≡ e = cc in sym same

  performed : (fs : List Fault) (k : Command) → MeetsMask w.pack d head k → Step.carry fs st (Step.perform w l c d st k) ≡ ends e
      → e ≡ refused_at (protected_step head) l c d st
  unfolding Step.carry Step.perform Step.counted Step.plan_search_multitrack Step.plan_read_multitrack Step.on_reached Step.refuse Step.refusal check_sense pick
  performed fs SearchIdMultitrack (by_search q) is =
      split (eqb c.count 5 && not (chains_data c))
      (λ ok. refused (rw (ok, q) at is))
      (λ bad. no_other (refused_at rejected l c d st) (rw bad at is) (λ z. omega (arith, z)))
  performed fs (ReadMultitrack k) (by_read _ q) is = refused (rw q at is)
  performed fs NoOperation x'' is = elim x'' [ ]
  performed fs Seek x3 is = elim x3 [ ]
  performed fs SetMask x4 is = elim x4 [ ]
  performed fs SetSector x5 is = elim x5 [ ]
  performed fs SearchId x6 is = elim x6 [ ]
  performed fs ReadHome x7 is = elim x7 [ ]
  performed fs (ReadRecord _) x9 is = elim x9 [ ]
  performed fs Unlisted x9 is = elim x9 [ ]

  ended_by : (fs : List Fault) → MeetsMask w.pack d head (command_of c.command) → Step.carry fs st (Step.execute w l c d st) ≡ ends e
      → e ≡ refused_at (protected_step head) l c d st
  unfolding Step.carry Step.execute Step.program_check no_sense pick
  ended_by fs m is =
      split (Step.sound w.lent l (length st) c (command_of c.command))
      (λ ok. performed fs (command_of c.command) m (rw ok at is))
      (λ bad. no_other _ (rw bad at is) (λ z. omega (arith, z)))

executed : (fs : List Fault) (w : Setting) (s : State) (e : End) (p : ProtectedEnd fs w s e)
    → Step.carry fs s.storage (Step.execute w (Chain p.place) p.ccw s.drive s.storage) ≡ ends e
unfolding Step.step Step.plan Step.dispatch
executed fs w s e p = rw p.comes at p.ends_it

-- ---- the restart

-- the row of a protected step: "1.5→10"
to_ten : (head : ℕ) → action_for rows (check_sense (protected_step head)) ≡ Some 10
unfolding action_for rows Table.fits Table.covers check_sense pick
to_ten head = refl

-- a head of the pack stands in five bits
five_bits : (head : ℕ) → head < 18 → reached_head (check_sense (protected_step head)) ≡ head
unfolding reached_head check_sense
five_bits head h = omega (arith, h)

track_is : (a : Address) (head : ℕ) → head < 18 → reached_track (check_sense (protected_step head)) a ≡ Some (record { cylinder = a.cylinder; head = head })
unfolding reached_track pick
track_is a head h = rw (five_bits head h, le-leb head 18 (omega (arith, h)))

next_is : (cylinder head : ℕ) → head < 18 → next_track (record { cylinder = cylinder; head = head }) ≡ record { cylinder = cylinder; head = head + 1 }
unfolding next_track pick
next_is cylinder head h = rw (ne_eqb head 18 (λ z. omega (arith, h, z)))

-- the interrupted CCW of a CSW that shows the CCW at a place of the chain
interrupted_is : (g : Given) (r : Report) (st : List ℕ) (place : ℕ) (c : Ccw) → r.csw.address ≡ place + 8 → fetch_in g.chain place ≡ Some c → is_tic c ≡ false
    → interrupted g r st ≡ Some c
unfolding interrupted opt pick
interrupted_is g r st place c shown there plain =
    let back : place + 8 - 8 ≡ place = omega arith in
    rw (shown, le-leb 8 (place + 8) (omega arith), back, there, plain)

pub goes_on_behind : GoesOnBehind
unfolding Recovery.recover Recovery.act Recovery.action_ten Recovery.with_track Recovery.reached_restart Recovery.home_restart Recovery.seek_allowed restart_at Step.next_head at_index csw_at address_of fetch interrupted opt pick
goes_on_behind g fs w s e r a st table chain p reports user cylinder =
    let first = first_of w.pack s.drive p.head _ p.meets in
    let end = ended_by w (Chain p.place) p.ccw s.drive s.storage e p.head p.sensed fs p.meets (executed fs w s e p) in
    let got = resolve_got w.lent s.last s.at (Chain p.place) p.ccw p.comes in
    let sense : r.sense ≡ check_sense (protected_step p.head) = reports.sense ∙ p.sensed in
    let shown : r.csw.address ≡ p.place + 8 = ap (λ (x : Csw). x.address) reports.csw ∙ ap (λ (x : End). x.csw.address) end in
    let back : p.place + 8 - 8 ≡ p.place = omega arith in
    let mask : r.mask ≡ s.drive.mask = reports.mask ∙ ap (λ (x : End). x.mask) end in
    let ccw = interrupted_is g r st p.place p.ccw shown (rw (← chain) at got.0) got.1 in (
      first.0,
      rw (sense, table, to_ten p.head, user, ccw, no_seek w.pack s.drive p.head _ p.meets, track_is a p.head first.1, next_is a.cylinder p.head first.1, shown, back, mask, cylinder, first.0) refl,
    )

-- ---- the other actions

-- action 10 at an interrupted seek
module _ (g : Given) (r : Report) (st : List ℕ) (c : Ccw) (there : interrupted g r st ≡ Some c) (seek : is_seek (command_of c.command) ≡ true) where
  at_track : (a : Address)
      → opt (interrupted g r st) (Recovery.refused Question.Agreement) (λ d. pick (is_seek (command_of d.command)) (Recovery.seek_restart g r st a d) (Recovery.reached_restart g r st a))
      ≡ Recovery.seek_restart g r st a c
  unfolding opt pick
  at_track a = rw (there, seek)

  at_seek : Recovery.action_ten g r st ≡ opt (user_track g.last r.seek) (Recovery.refused Question.Agreement) (λ a. Recovery.seek_restart g r st a c)
  unfolding Recovery.action_ten Recovery.with_track
  at_seek = found _ refl at_track

pub eight_ten_stay : EightTenStay
unfolding Recovery.action_eight Recovery.with_track Recovery.seek_restart Recovery.home_restart interrupted with_six
eight_ten_stay g r st b =
    record { eight = refl; ten = λ c there seek. at_seek g (with_six r b) st c there seek ∙ sym (at_seek g r st c there seek) }
