-- What a command's plan is made of, and where the command leads: one pass over the definition of a command.
--   legal, legal_set    a mask that a set mask command may have set
--   Reads               the read that a command makes, on one track or over several
--   Taken               the record that a read of a data area takes, with its track and place, the read's bytes and the drive behind it
--   From                a read's first CCW and walk, and `Taken` if it takes a data area
--   AnswerFrom          an answer that is no cut: a chain that goes on stays in the chain and keeps a legal mask
--   PlanFrom            a plan is such an answer or such a read
--   plan_from           that holds of every plan
--   transfer_from_plan  a read's origin
--   ccw_fetched         its first CCW was fetched and is no TIC
--   first_in            in the chain its first CCW is in the chain
--   ends_in             so is its last one
--   places_few          its walk has at most as many places as it has bytes
--   CutFrom             a cut has the pattern of a fault of the list that names its record, and the mask from before
--   StepFrom            a command comes to an answer that is no cut, or to such a cut
--   step_stays          a command in the chain goes on in the chain
--   step_legal          a command keeps a legal mask legal
--   step_cuts           a cut is such a cut
use Rattle.std.specs.Prelude.{Option, Some, None, Result, Ok, Err}
use Prim.Native.Nat.{ℕ, ◌+◌, ◌≤◌, ◌<◌}
use mathlib.Core.Path.{◌≡◌, refl, ap}
use mathlib.Core.Bool.{Bool, true, false, not}
use mathlib.Core.List.{List}
use lib.Dec.{eqb}
use lib.ListN.{length, get_or, length-append}
use native.Mathlib.Omega.{arith}
use borrow.Author.Tests.{ltb-true, eqb-false}
use Rattle.base.specs.Choice.{pick}
use Rattle.base.specs.Bytes.{two}
use Rattle.base.proofs.Choice.{both, both_if, either, either_if, and_right}
use Rattle.pack.specs.Pack.{Record, Track, track_in}
use Rattle.faults.specs.Faults.{Fault, naming}
use Rattle.abstract_machine.specs.Machine.{goes, ends, cuts}
use Rattle.channel.specs.declared.Ccw.{Ccw}
use Rattle.channel.specs.declared.Location.{Location}
use Rattle.channel.specs.Ccw.{is_tic, next, fetch, resolve}
use Rattle.channel.specs.Walk.{Walk, walked, checked, walk, readable}
use Rattle.channel.proofs.InChain.{InChain, WalkIn, next_in, resolve_in, walk_in}
use Rattle.channel.proofs.Walks.{Short, walk_places, resolve_got}
use Rattle.drive.specs.declared.Read.{Read}
use Rattle.drive.specs.declared.Command.{Command}
use Rattle.drive.specs.declared.Command.TheVariants.{NoOperation, Seek, SetMask, SetSector, SearchId, ReadHome, ReadRecord, SearchIdMultitrack, ReadMultitrack, Unlisted}
use Rattle.drive.specs.Drive.{Drive, at_index, moved_past, taken, address_bytes, identifier, count_area, no_record}
use Rattle.drive.specs.Command.{command_of}
use Rattle.drive.specs.Step as Step
use Rattle.drive.proofs.Multitrack.{reached_by, Masked, masked_is, search_masked, take_masked}
use Rattle.drive.specs.Step.{State, Cut, End, Answer, DataArea, nothing, empty, data_of, Transfer, Plan, answer, moves, Setting}

-- ---- how many bytes a read has

included_few : (b : Bool) (s : List ℕ) → length (Step.included b s) ≤ length s
unfolding Step.included
included_few true s = omega arith
included_few false s = omega arith

length_count_area : (x : Record) → length (count_area x) ≡ 8
unfolding count_area identifier address_bytes two
length_count_area x = refl

length-bytes_of : (k : Read) (x : Record) → length (Step.bytes_of k x)
    ≡ length (Step.included k.counts (count_area x)) + length (Step.included k.keys x.key) + length (Step.included k.datas x.body)
unfolding Step.bytes_of
length-bytes_of k x = simp length-append

bytes_of_few : (k : Read) (x : Record) → length (Step.bytes_of k x) ≤ 8 + length x.key + length x.body
bytes_of_few k x =
    omega (arith, length-bytes_of k x, included_few k.counts (count_area x), included_few k.keys x.key, included_few k.datas x.body, length_count_area x)

bytes_of_body : (k : Read) (x : Record) → k.datas ≡ true → length x.body ≤ length (Step.bytes_of k x)
unfolding Step.included
bytes_of_body k x h = omega (arith, length-bytes_of k x, ap (λ b. length (Step.included b x.body)) h)

-- ---- what a plan is made of

-- a mask that a set mask command may set
abbrev pub legal : Option ℕ → Type 0
legal None = Unit {0}
legal (Some m) = Step.settable m ≡ true

pub legal_set : (m : Option ℕ) → legal m → (b : ℕ) → m ≡ Some b → Step.settable b ≡ true
legal_set m h b e = rw e at h

-- a command that reads records, on one track or over several
pub data Reads : Command → Read → Type 0 where
  on_track : {k : Read} → Reads (ReadRecord k) k
  multitrack : {k : Read} → Reads (ReadMultitrack k) k

-- A read of a data area by the CCW c: the record x that it takes, its bytes, and the drive behind it. The drive `reached` is the one from which it
-- takes the record: that of s, or one at the index of a head behind.
pub record Taken (w : Setting) (s : State) (c : Ccw) (x : Record) (bytes : List ℕ) (after : Drive) : Type 0 where
  pub kind : Read
  pub track : Track
  pub place : ℕ
  pub reached : Drive
  pub command_is : Reads (command_of c.command) kind
  pub takes_data : kind.datas ≡ true
  pub mask_same : reached.mask ≡ s.drive.mask
  pub track_is : track_in w.pack reached.at ≡ Some track
  pub place_is : place ≡ taken kind.just reached (length track.records)
  pub below : place < length track.records
  pub record_is : get_or track.records place no_record ≡ x
  pub bytes_are : bytes ≡ Step.bytes_of kind x
  pub after_is : after ≡ moved_past reached place false 0
  pub body_some : 0 < length x.body
  pub body_in : length x.body ≤ length bytes
  pub bytes_few : length bytes ≤ 8 + length x.key + length x.body

-- A read: its first CCW, its walk, and the record that it takes if it takes a data area.
pub record From (w : Setting) (s : State) (t : Transfer) : Type 0 where
  pub ccw : Ccw
  pub resolved : resolve w.lent s.last s.at ≡ Ok (t.first, ccw)
  pub sound : readable (length s.storage) ccw ≡ true
  pub mask_is : t.after.mask ≡ s.drive.mask
  pub walk_is : t.walk ≡ walk w.lent (length s.storage) (length t.bytes) t.first ccw ccw.count ccw.address
  pub data_from : (x : Record) → t.area ≡ data_of x → Taken w s ccw x t.bytes t.after

-- An answer that is no cut. A chain that goes on from s stays in the chain and keeps a legal mask.
pub data AnswerFrom (s : State) : Answer → Type 0 where
  goes_from : {t : State} → (InChain s.at → InChain t.at) → (legal s.drive.mask → legal t.drive.mask) → AnswerFrom s (goes t)
  ends_from : {e : End} → AnswerFrom s (ends e)

pub data PlanFrom (w : Setting) (s : State) : Plan → Type 0 where
  answer_from : {a : Answer} → AnswerFrom s a → PlanFrom w s (answer a)
  moves_from : {t : Transfer} → From w s t → PlanFrom w s (moves t)

area_of_data : (k : Read) (y x : Record) → Step.area_of k y ≡ data_of x → (k.datas ≡ true) × (0 < length y.body) × (y ≡ x)
unfolding Step.area_of pick
area_of_data k y x h = by k.datas refl (eqb (length y.body) 0) refl
  where
    by : (b : Bool) → k.datas ≡ b → (e : Bool) → eqb (length y.body) 0 ≡ e → (k.datas ≡ true) × (0 < length y.body) × (y ≡ x)
    by false q e r = let g : nothing ≡ data_of x = rw q at h in let z : ◌≡◌ {A = ℕ} 0 1 = cc in absurd (omega arith)
    by true q true r = let g : empty ≡ data_of x = rw (q, r) at h in let z : ◌≡◌ {A = ℕ} 0 1 = cc in absurd (omega arith)
    by true q false r =
        let g : data_of y ≡ data_of x = rw (q, r) at h in
        let some_body : length y.body ≡ 0 → ⊥ = eqb-false (length y.body) 0 r in
        (q, omega arith, (cc))

module _ (w : Setting) (s : State) (l : Location) (c : Ccw) (got : resolve w.lent s.last s.at ≡ Ok (l, c)) where
  abbrev d : Drive
  d = s.drive

  abbrev st : List ℕ
  st = s.storage

  abbrev P : Plan → Type 0
  P = PlanFrom w s

  here : InChain s.at → InChain l
  here h = rw got at (resolve_in w.lent s.last s.at h)

  no_from : (e : Drive) (k : Step.Check) → P (Step.refuse l c e st k)
  unfolding Step.refuse Step.refusal
  no_from e k = answer_from ends_from

  no : (k : Step.Check) → P (Step.refuse l c d st k)
  no = no_from d

  onward_from : (to : Location) (left : ℕ) (e : Drive) → (InChain s.at → InChain to) → (legal d.mask → legal e.mask) → P (answer (Step.onward l to c left e st))
  unfolding Step.onward
  onward_from to left e h g = answer_from (both (AnswerFrom s) _ (goes_from h g) ends_from)

  -- on to the CCW behind
  on : (e : Drive) → (legal d.mask → legal e.mask) → P (Step.done l c d st (next l) e)
  unfolding Step.done
  on e g = onward_from (next l) 0 e (λ h. next_in l (here h)) g

  counted_from : (n : ℕ) (a : Plan) → P a → P (Step.counted l c d st n a)
  unfolding Step.counted
  counted_from n a h = both P _ h (no Step.rejected)

  no_operation_from : P (Step.plan_no_operation l c d st)
  unfolding Step.plan_no_operation at_index
  no_operation_from = both P _ (no Step.rejected) (onward_from (next l) _ _ (λ h. next_in l (here h)) (λ g. g))

  seek_from : (last : ℕ) (g : List ℕ) → P (Step.plan_seek l c d st last g)
  unfolding Step.plan_seek at_index
  seek_from last g = both P _ (both P _ (no Step.protected) (on _ (λ m. m))) (no Step.rejected)

  mask_from : (m : ℕ) → P (Step.plan_mask l c d st m)
  unfolding Step.plan_mask at_index
  mask_from m = both_if P _ (λ e. on _ (λ g. and_right (not (Step.is_set d.mask)) (Step.settable m) e)) (λ e. no Step.rejected)

  sector_from : (n : ℕ) → P (Step.plan_sector l c d st n)
  unfolding Step.plan_sector at_index
  sector_from n = both P _ (on _ (λ g. g)) (no Step.rejected)

  -- a search from a drive with the mask of s
  search_from : (e : Drive) → e.mask ≡ d.mask → (g : List ℕ) → P (Step.plan_search l c e st w.pack g)
  unfolding Step.plan_search Step.examine Step.done moved_past
  search_from e same g =
      either P _ (no_from e Step.not_found) (λ t. both P _ (no_from e Step.not_found)
      (both P _ (onward_from (next (next l)) 0 _ (λ h. next_in _ (next_in l (here h))) (λ m. rw same m)) (onward_from (next l) 0 _ (λ h. next_in l (here h)) (λ m. rw same m))))

  -- a multitrack command, if it is made from each drive with that mask
  multitrack_from : (r : Step.Reached) → Masked d r → {f : Drive → Plan} → ((e : Drive) → e.mask ≡ d.mask → P (f e))
      → P (Step.on_reached r (Step.refuse l c d st) f)
  multitrack_from r h from = reached_by P r (λ k q. no k) (λ e q. from e (masked_is d e r h q))

  -- reads

  module _ (r : readable (length st) c ≡ true) where
    transfer_from : (bs : List ℕ) (a : DataArea) (e : Drive) → e.mask ≡ d.mask → ((x : Record) → a ≡ data_of x → Taken w s c x bs e)
        → P (Step.plan_transfer l c d st w.lent bs a e)
    unfolding Step.plan_transfer
    transfer_from bs a e m f = moves_from (record { ccw = c; resolved = got; sound = r; mask_is = m; walk_is = refl; data_from = f })

    home_from : P (Step.plan_home l c d st w.pack w.lent)
    unfolding Step.plan_home at_index
    home_from = either P _ (no Step.not_found) (λ t. transfer_from _ nothing _ refl (λ x e. let z : ◌≡◌ {A = ℕ} 0 1 = cc in absurd (omega arith)))

    module _ (k : Read) (k_is : Reads (command_of c.command) k) (d' : Drive) (same : d'.mask ≡ d.mask)
        (t : Track) (t_is : track_in w.pack d'.at ≡ Some t) where
      -- the record at the place that a read takes
      taken_from : (place : ℕ) → place ≡ taken k.just d' (length t.records) → place < length t.records
          → (x : Record) → Step.area_of k (get_or t.records place no_record) ≡ data_of x
          → Taken w s c x (Step.bytes_of k (get_or t.records place no_record)) (moved_past d' place (not k.datas) 0)
      taken_from place e b x h =
          let v = area_of_data k (get_or t.records place no_record) x h in
          rw (← v.2) (record {
            kind = k;
            track = t;
            place = place;
            reached = d';
            command_is = k_is;
            takes_data = v.0;
            mask_same = same;
            track_is = t_is;
            place_is = e;
            below = b;
            record_is = refl;
            bytes_are = refl;
            after_is = ap (λ y. moved_past d' place (not y) 0) v.0;
            body_some = v.1;
            body_in = bytes_of_body k _ v.0;
            bytes_few = bytes_of_few k _;
          })

      place_from : P (Step.plan_place l c d' st w.lent k t.records (taken k.just d' (length t.records)))
      unfolding Step.plan_place Step.plan_record Step.plan_transfer moved_past
      place_from = both_if P _ (λ e. transfer_from _ _ _ same (taken_from _ refl (ltb-true _ _ e))) (λ e. no_from d' Step.not_found)

    -- a read from a drive with the mask of s
    read_from : (k : Read) → Reads (command_of c.command) k → (e : Drive) → e.mask ≡ d.mask → P (Step.plan_read l c e st w.pack w.lent k)
    unfolding Step.plan_read
    read_from k q e same = either_if P _ (λ n. no_from e Step.not_found) (λ t f. place_from k q e same t f)

  perform_from : (k : Command) → command_of c.command ≡ k → Step.sound w.lent l (length st) c k ≡ true → P (Step.perform w l c d st k)
  unfolding Step.perform Step.sound Step.plan_search_multitrack Step.plan_read_multitrack
  perform_from NoOperation e r = no_operation_from
  perform_from Unlisted e r = no Step.rejected
  perform_from Seek e r = counted_from 6 _ (seek_from _ _)
  perform_from SetMask e r = counted_from 1 _ (mask_from _)
  perform_from SetSector e r = counted_from 1 _ (sector_from _)
  perform_from SearchId e r = counted_from 5 _ (search_from d refl _)
  perform_from ReadHome e r = home_from r
  perform_from (ReadRecord k) e r = read_from r k (rw e on_track) d refl
  perform_from SearchIdMultitrack e r = counted_from 5 _ (multitrack_from _ (search_masked w.pack d) (λ x m. search_from x m _))
  perform_from (ReadMultitrack k) e r = multitrack_from _ (take_masked w.pack k.just d) (λ x m. read_from r k (rw e multitrack) x m)

dispatch_from : (w : Setting) (s : State) (g : Result (Location × Ccw) Location) → resolve w.lent s.last s.at ≡ g → PlanFrom w s (Step.dispatch w s.drive s.storage g)
unfolding Step.dispatch Step.execute Step.program_check
dispatch_from w s (Err l) e = answer_from ends_from
dispatch_from w s (Ok (l, c)) e = both_if (PlanFrom w s) _ (λ r. perform_from w s l c e _ refl r) (λ r. answer_from ends_from)

pub plan_from : (w : Setting) (s : State) → PlanFrom w s (Step.plan w s)
unfolding Step.plan
plan_from w s = dispatch_from w s (resolve w.lent s.last s.at) refl

moves_is : (w : Setting) (s : State) (t : Transfer) (a : Plan) → PlanFrom w s a → a ≡ moves t → From w s t
moves_is w s t (moves u) (moves_from f) e = let z : u ≡ t = cc in rw (← z) f
moves_is w s t (answer a) h e = let z : ◌≡◌ {A = ℕ} 0 1 = cc in absurd (omega arith)

pub transfer_from_plan : (w : Setting) (s : State) (t : Transfer) → Step.plan w s ≡ moves t → From w s t
transfer_from_plan w s t e = moves_is w s t _ (plan_from w s) e

pub ccw_fetched : (w : Setting) (s : State) (t : Transfer) (f : From w s t) → (fetch w.lent t.first ≡ Some f.ccw) × (is_tic f.ccw ≡ false)
ccw_fetched w s t f = resolve_got w.lent s.last s.at t.first f.ccw f.resolved

pub first_in : (w : Setting) (s : State) (t : Transfer) → From w s t → InChain s.at → InChain t.first
first_in w s t f h = rw f.resolved at (resolve_in w.lent s.last s.at h)

pub ends_in : (w : Setting) (s : State) (t : Transfer) → From w s t → InChain s.at → WalkIn t.walk
ends_in w s t f h = rw f.walk_is (walk_in w.lent _ _ t.first _ _ _ (first_in w s t f h))

pub places_few : (w : Setting) (s : State) (t : Transfer) → From w s t → Short (length t.bytes) t.walk
places_few w s t f = rw f.walk_is (walk_places w.lent _ _ t.first _ _ _)

-- ---- where a command leads

-- A cut in the state s: the fault that names its record, and the mask of s.
pub record CutFrom (fs : List Fault) (s : State) (k : Cut) : Type 0 where
  pub fault : Fault
  pub named : naming fs k.at k.r ≡ Some fault
  pub pattern_is : k.pattern ≡ fault.pattern
  pub mask_is : k.mask ≡ s.drive.mask

-- What a command in the state s comes to under a fault list.
pub data StepFrom (fs : List Fault) (s : State) : Answer → Type 0 where
  uncut_from : {a : Answer} → AnswerFrom s a → StepFrom fs s a
  cuts_from : {k : Cut} → CutFrom fs s k → StepFrom fs s (cuts k)

module _ (s : State) (bs : List ℕ) (d : Drive) (st : List ℕ) where
  settled_from : (k : Walk) → (InChain s.at → WalkIn k) → (legal s.drive.mask → legal d.mask) → AnswerFrom s (Step.settled bs d st k)
  unfolding Step.settled Step.program_check Step.onward
  settled_from (checked ps l) h g = ends_from
  settled_from (walked ps l c left over) h g = both (AnswerFrom s) _ ends_from (both (AnswerFrom s) _ (goes_from (λ i. next_in l (h i)) g) ends_from)

  excepted_from : (k : Walk) → AnswerFrom s (Step.excepted bs d st k)
  unfolding Step.excepted Step.program_check
  excepted_from (checked ps l) = ends_from
  excepted_from (walked ps l c left over) = ends_from

module _ (fs : List Fault) (w : Setting) (s : State) where
  clean : (t : Transfer) → From w s t → StepFrom fs s (Step.settled t.bytes t.after s.storage t.walk)
  clean t f = uncut_from (settled_from s t.bytes t.after s.storage t.walk (ends_in w s t f) (λ g. rw f.mask_is g))

  faulted_from : (t : Transfer) (x : Record) (f : Fault) → From w s t → naming fs x.at x.r ≡ Some f
      → (k : Walk) → StepFrom fs s (Step.faulted t.first x f t.bytes t.after s.storage k)
  unfolding Step.faulted Step.program_check
  faulted_from t x f h e (checked ps l) = uncut_from ends_from
  faulted_from t x f h e (walked ps l c left over) = cuts_from (record { fault = f; named = e; pattern_is = refl; mask_is = h.mask_is })

  by_fault_from : (t : Transfer) (x : Record) (o : Option Fault) → From w s t → naming fs x.at x.r ≡ o → StepFrom fs s (Step.by_fault t x s.storage o)
  unfolding Step.by_fault
  by_fault_from t x None f e = clean t f
  by_fault_from t x (Some y) f e = faulted_from t x y f e t.walk

  transferred_from : (t : Transfer) (a : DataArea) → From w s t → StepFrom fs s (Step.transferred fs t s.storage a)
  unfolding Step.transferred
  transferred_from t nothing f = clean t f
  transferred_from t empty f = uncut_from (excepted_from s _ _ _ t.walk)
  transferred_from t (data_of x) f = by_fault_from t x _ f refl

  carry_from : (a : Plan) → PlanFrom w s a → StepFrom fs s (Step.carry fs s.storage a)
  unfolding Step.carry
  carry_from (answer a) (answer_from h) = uncut_from h
  carry_from (moves t) (moves_from f) = transferred_from t t.area f

  step_from : StepFrom fs s (Step.step fs w s)
  unfolding Step.step
  step_from = carry_from (Step.plan w s) (plan_from w s)

-- ---- by what a command came to

abbrev Onward : State → State → Type 0
Onward s t = (InChain s.at → InChain t.at) × (legal s.drive.mask → legal t.drive.mask)

uncut_goes : (s t : State) (a : Answer) → AnswerFrom s a → a ≡ goes t → Onward s t
uncut_goes s t (goes u) (goes_from h g) e = let z : u ≡ t = cc in rw (← z) (h, g)
uncut_goes s t (ends x) h e = let z : ◌≡◌ {A = ℕ} 0 1 = cc in absurd (omega arith)
uncut_goes s t (cuts k) h e = let z : ◌≡◌ {A = ℕ} 0 1 = cc in absurd (omega arith)

goes_is : (fs : List Fault) (s t : State) (a : Answer) → StepFrom fs s a → a ≡ goes t → Onward s t
goes_is fs s t a (uncut_from h) e = uncut_goes s t _ h e
goes_is fs s t a (cuts_from h) e = let z : ◌≡◌ {A = ℕ} 0 1 = cc in absurd (omega arith)

uncut : {A : Type 0} (s : State) (a : Answer) → AnswerFrom s a → (k : Cut) → a ≡ cuts k → A
uncut s a (goes_from h g) k e = let z : ◌≡◌ {A = ℕ} 0 1 = cc in absurd (omega arith)
uncut s a ends_from k e = let z : ◌≡◌ {A = ℕ} 0 1 = cc in absurd (omega arith)

cuts_is : (fs : List Fault) (s : State) (k : Cut) (a : Answer) → StepFrom fs s a → a ≡ cuts k → CutFrom fs s k
cuts_is fs s k a (uncut_from h) e = uncut s _ h k e
cuts_is fs s k a (cuts_from {k = j} h) e = let z : j ≡ k = cc in rw (← z) h

module _ (fs : List Fault) (w : Setting) (s t : State) (e : Step.step fs w s ≡ goes t) where
  pub step_stays : InChain s.at → InChain t.at
  step_stays = (goes_is fs s t _ (step_from fs w s) e).0

  pub step_legal : legal s.drive.mask → legal t.drive.mask
  step_legal = (goes_is fs s t _ (step_from fs w s) e).1

pub step_cuts : (fs : List Fault) (w : Setting) (s : State) (k : Cut) → Step.step fs w s ≡ cuts k → CutFrom fs s k
step_cuts fs w s k e = cuts_is fs s k _ (step_from fs w s) e
