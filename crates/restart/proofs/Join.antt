-- The user's next command does the same on the drive that the restart leaves and on the one that the faultless read leaves.
--   Counted, counted            a command's code by the read count that stands before it
--   Found                       the record that a multitrack read comes to, from a place of a track, whether or not a count area was just passed
--   Ahead, ahead_of             it comes to one, or to a unit check
--   execute_five                5: the count area before the next one was just passed; the command has bit 3 on
--   execute_five_a              5A: so was that of the next record other than R0, by a 12; the command has bit 3 off
--   execute_five_a_multitrack   or by a 92; the command is an 86 or 8E
--   execute_failed              and where a 92 fails: the 86 or 8E ends by the same unit check
use Rattle.std.specs.Prelude.{Option, Some, None}
use Prim.Native.Nat.{ℕ, zero, suc, ◌+◌, ◌-◌, ◌<◌}
use mathlib.Core.Path.{◌≡◌, refl, sym, ◌∙◌}
use mathlib.Core.Bool.{Bool, true, false, not}
use mathlib.Core.List.{List}
use lib.Dec.{eqb, ltb}
use lib.ListN.{length}
use native.Mathlib.Omega.{arith}
use borrow.Author.Tests.{eqb-true, eq-eqb, ltb-true, lt-ltb}
use Rattle.base.specs.Choice.{pick, opt}
use Rattle.base.specs.Bits.{bit_on}
use Rattle.base.proofs.Choice.{both, both_if, choose, split}
use Rattle.address.specs.declared.Address.{Address}
use Rattle.pack.specs.Pack.{Track, track_in}
use Rattle.channel.specs.declared.Ccw.{Ccw}
use Rattle.channel.specs.declared.Location.{Location}
use Rattle.channel.specs.Ccw.{argument}
use Rattle.drive.specs.declared.Read.{Read}
use Rattle.drive.specs.declared.Command.{Command}
use Rattle.drive.specs.declared.Command.TheVariants.{NoOperation, Seek, SetMask, SetSector, SearchId, ReadHome, ReadRecord, SearchIdMultitrack, ReadMultitrack, Unlisted}
use Rattle.drive.specs.Drive as Drive
use Rattle.drive.specs.Command as Command
use Rattle.drive.specs.Command.{command_of, reads, reads_multitrack}
use Rattle.drive.specs.Step as Step
use Rattle.drive.specs.Step.{Setting, Reached, reaches, fails, execute, perform}
use Rattle.restart.specs.declared.ReadCount.{ReadCount}
use Rattle.restart.specs.declared.ReadCount.TheVariants.{Omitted, Single, Multitrack}
use Rattle.restart.specs.Restart.{is_multitrack_data, count_for}
use Rattle.restart.proofs.Commands.{placed, ahead}

-- ---- the command by the read count before it

data On : Command → Type 0 where
  on_mask : On SetMask
  on_search : On SearchId
  on_home : On ReadHome
  on_read : {counts keys datas : Bool} → On (reads false counts keys datas)
  on_search_multitrack : On SearchIdMultitrack
  on_read_multitrack : {counts keys datas : Bool} → On (reads_multitrack false counts keys datas)
  on_unlisted : On Unlisted

data Off : Command → Type 0 where
  off_no_operation : Off NoOperation
  off_seek : Off Seek
  off_sector : Off SetSector
  off_read : {counts keys datas : Bool} → Off (reads true counts keys datas)
  off_unlisted : Off Unlisted

-- 86 and 8E
pub data ReadsOn : Command → Type 0 where
  reads_on : {counts keys datas : Bool} → ReadsOn (reads_multitrack true counts keys datas)

-- a code with the other bit is another code
other : {P : Type 0} (code x : ℕ) (b : Bool) → bit_on 3 x ≡ b → bit_on 3 code ≡ not b → eqb code x ≡ true → P
other code x b h k e = never b (sym h ∙ rw (← (eqb-true code x e)) k)
  where
    never : {P : Type 0} (b : Bool) → b ≡ not b → P
    never true e = let z : ◌≡◌ {A = ℕ} 0 1 = cc in absurd (omega arith)
    never false e = let z : ◌≡◌ {A = ℕ} 0 1 = cc in absurd (omega arith)

command_on : (x : ℕ) → bit_on 3 x ≡ true → On (command_of x)
unfolding bit_on Command.command_of Command.look_up Command.codes
command_on x h =
    both_if On _ (λ e. other 0x03 x true h refl e) λ _.
    both_if On _ (λ e. other 0x07 x true h refl e) λ _.
    both_if On _ (λ e. on_mask) λ _.
    both_if On _ (λ e. other 0x23 x true h refl e) λ _.
    both_if On _ (λ e. on_search) λ _.
    both_if On _ (λ e. other 0x06 x true h refl e) λ _.
    both_if On _ (λ e. other 0x0e x true h refl e) λ _.
    both_if On _ (λ e. on_read) λ _.
    both_if On _ (λ e. on_read) λ _.
    both_if On _ (λ e. on_home) λ _.
    both_if On _ (λ e. on_search_multitrack) λ _.
    both_if On _ (λ e. other 0x86 x true h refl e) λ _.
    both_if On _ (λ e. other 0x8e x true h refl e) λ _.
    both_if On _ (λ e. on_read_multitrack) λ _.
    both_if On _ (λ e. on_read_multitrack) λ _. on_unlisted

-- a code that is neither 86 nor 8E is not this one
neither : {P : Type 0} (code x : ℕ) → is_multitrack_data x ≡ false → is_multitrack_data code ≡ true → eqb code x ≡ true → P
neither code x h k e =
    let g : true ≡ false = sym k ∙ rw (eqb-true code x e) h in
    let z : ◌≡◌ {A = ℕ} 0 1 = cc in absurd (omega arith)

command_off : (x : ℕ) → bit_on 3 x ≡ false → is_multitrack_data x ≡ false → Off (command_of x)
unfolding bit_on is_multitrack_data Command.command_of Command.look_up Command.codes
command_off x h k =
    both_if Off _ (λ e. off_no_operation) λ _.
    both_if Off _ (λ e. off_seek) λ _.
    both_if Off _ (λ e. other 0x1f x false h refl e) λ _.
    both_if Off _ (λ e. off_sector) λ _.
    both_if Off _ (λ e. other 0x31 x false h refl e) λ _.
    both_if Off _ (λ e. off_read) λ _.
    both_if Off _ (λ e. off_read) λ _.
    both_if Off _ (λ e. other 0x12 x false h refl e) λ _.
    both_if Off _ (λ e. other 0x1e x false h refl e) λ _.
    both_if Off _ (λ e. other 0x1a x false h refl e) λ _.
    both_if Off _ (λ e. other 0xb1 x false h refl e) λ _.
    both_if Off _ (λ e. neither 0x86 x k refl e) λ _.
    both_if Off _ (λ e. neither 0x8e x k refl e) λ _.
    both_if Off _ (λ e. other 0x92 x false h refl e) λ _.
    both_if Off _ (λ e. other 0x9e x false h refl e) λ _. off_unlisted

pub command_reads_on : (x : ℕ) → is_multitrack_data x ≡ true → ReadsOn (command_of x)
unfolding is_multitrack_data pick Command.command_of Command.look_up Command.codes
command_reads_on x h =
    split (eqb x 0x86)
    (λ e. rw (eqb-true x 0x86 e) reads_on)
    (λ e. let f : eqb x 0x8e ≡ true = rw e at h in rw (eqb-true x 0x8e f) reads_on)

-- 86 and 8E have bit 3 off
on_other : (x : ℕ) → bit_on 3 x ≡ true → is_multitrack_data x ≡ false
unfolding bit_on is_multitrack_data
on_other x h =
    split (eqb x 0x86) (λ e. other 0x86 x true h refl (eq-eqb _ _ (sym (eqb-true x 0x86 e))))
    (λ e. rw e (split (eqb x 0x8e) (λ f. other 0x8e x true h refl (eq-eqb _ _ (sym (eqb-true x 0x8e f)))) (λ f. f)))

-- what the read count before a command says of its code
pub data Counted (x : ℕ) : ReadCount → Type 0 where
  omitted : bit_on 3 x ≡ true → is_multitrack_data x ≡ false → Counted x Omitted
  single : bit_on 3 x ≡ false → is_multitrack_data x ≡ false → Counted x Single
  multitrack : is_multitrack_data x ≡ true → Counted x Multitrack

pub counted : (x : ℕ) → Counted x (count_for x)
unfolding count_for
counted x = both_if (Counted x) _ (λ on. omitted on (on_other x on)) (λ off. both_if (Counted x) _ multitrack (λ n. single off n))

-- ---- where multitrack commands reach

-- the same behind a count area that was just passed and behind a whole record: drives that differ in that alone, or one unit check
data Alike : Reached → Reached → Type 0 where
  places : (a : Address) (m : Option ℕ) (j : ℕ) (p q : Bool) → Alike (reaches (placed a m j p)) (reaches (placed a m j q))
  checks : (k : Step.Check) → Alike (fails k) (fails k)

-- The record that a read over n tracks comes to from place j of the track at a: the next one other than R0 from a place of the track at `at`.
pub record Found (pack : List Track) (m : Option ℕ) (n : ℕ) (a : Address) (j : ℕ) : Type 0 where
  pub at : Address
  pub track : Track
  pub place : ℕ
  pub passed : Bool
  pub there : track_in pack at ≡ Some track
  pub inside : ahead track place < length track.records
  pub behind_area : Step.read_from pack n (placed a m j true) ≡ reaches (placed at m place passed)
  pub behind_record : Step.read_from pack n (placed a m j false) ≡ reaches (placed at m place false)

pub data Ahead (pack : List Track) (m : Option ℕ) (n : ℕ) (a : Address) (j : ℕ) : Type 0 where
  finds : Found pack m n a j → Ahead pack m n a j
  ends : (k : Step.Check) → ((p : Bool) → Step.read_from pack n (placed a m j p) ≡ fails k) → Ahead pack m n a j

-- a record other than R0 that comes before the index
before_index : (t : Track) (j : ℕ) → Drive.passes_index (length t.records) (Drive.past_zero j) ≡ false → ahead t j < length t.records
unfolding pick Drive.passes_index Drive.past_zero Drive.turn
before_index t j h = by (eqb j 0) refl
  where
    inside : (place : ℕ) → pick (ltb place (length t.records)) false true ≡ false → place < length t.records
    inside place e = split (ltb place (length t.records)) (λ y. ltb-true _ _ y) (λ y. let g : true ≡ false = rw y at e in let z : ◌≡◌ {A = ℕ} 0 1 = cc in absurd (omega arith))

    by : (b : Bool) → eqb j 0 ≡ b → ahead t j < length t.records
    by true e =
        let more : 1 < length t.records = inside 1 (rw e at h) in
        let zero_is : j ≡ 0 = eqb-true j 0 e in
        rw (zero_is, lt-ltb 0 (length t.records) (omega arith)) more
    by false e =
        let more : j < length t.records = inside j (rw e at h) in
        rw (lt-ltb j (length t.records) more, e) more

module _ (pack : List Track) (m : Option ℕ) where
  step_alike : (a : Address) (j : ℕ) → Alike (Step.stepped (placed a m j true)) (Step.stepped (placed a m j false))
  unfolding Drive.at_index Step.stepped Step.next_head
  step_alike a j = both (λ r. Alike r r) _ (both (λ r. Alike r r) _ (checks (Step.protected_step _)) (places _ m 0 false false)) (checks Step.end_of_cylinder)

  search_alike : (a : Address) (j : ℕ) → Alike (Step.search_from pack (placed a m j true)) (Step.search_from pack (placed a m j false))
  unfolding opt pick Step.search_from
  search_alike a j = by (track_in pack a) refl
    where
      by : (o : Option Track) → track_in pack a ≡ o → Alike (Step.search_from pack (placed a m j true)) (Step.search_from pack (placed a m j false))
      by None q = rw q (checks Step.not_found)
      by (Some t) q =
          split (Drive.passes_index (length t.records) j)
          (λ e. rw (q, e) (step_alike a j))
          (λ e. rw (q, e) (places a m j true false))

  pub ahead_of : (n : ℕ) (a : Address) (j : ℕ) → Ahead pack m n a j
  unfolding opt pick Drive.at_index Step.read_from Step.stepped Step.next_head Step.on_reached
  ahead_of zero a j = ends Step.end_of_cylinder (λ p. refl)
  ahead_of (suc n) a j = by (ahead_of n (record { cylinder = a.cylinder; head = a.head + 1 }) 0) (track_in pack a) refl
    where
      by : Ahead pack m n (record { cylinder = a.cylinder; head = a.head + 1 }) 0 → (o : Option Track) → track_in pack a ≡ o → Ahead pack m (suc n) a j
      by later None q = ends Step.not_found (λ p. rw q)
      by later (Some t) q =
          split (Drive.passes_index (length t.records) (Drive.past_zero j))
          (λ e.
          split (ltb a.head 18)
          (λ h. split (Step.protects_step m) (λ g. ends (Step.protected_step a.head) (λ p. rw (q, e, h, g))) (λ g. further e h g later))
          (λ h. ends Step.end_of_cylinder (λ p. rw (q, e, h))))
          (λ e. finds (record {
            at = a;
            track = t;
            place = j;
            passed = true;
            there = q;
            inside = before_index t j e;
            behind_area = rw (q, e);
            behind_record = rw (q, e);
          }))
        where
          further : Drive.passes_index (length t.records) (Drive.past_zero j) ≡ true → ltb a.head 18 ≡ true → Step.protects_step m ≡ false
              → Ahead pack m n (record { cylinder = a.cylinder; head = a.head + 1 }) 0 → Ahead pack m (suc n) a j
          further e h g (finds f) = finds (record {
            at = f.at;
            track = f.track;
            place = f.place;
            passed = false;
            there = f.there;
            inside = f.inside;
            behind_area = rw (q, e, h, g) f.behind_record;
            behind_record = rw (q, e, h, g) f.behind_record;
          })
          further e h g (ends k is) = ends k (λ p. rw (q, e, h, g) (is false))

-- ---- the two drives

module _ (w : Setting) (l : Location) (c : Ccw) (st : List ℕ) where
  -- a command with bit 3 on does not ask what was just passed
  search_same : (a : Address) (m : Option ℕ) (j : ℕ) (p q : Bool) (g : List ℕ)
      → Step.plan_search l c (placed a m j p) st w.pack g ≡ Step.plan_search l c (placed a m j q) st w.pack g
  unfolding Drive.moved_past Step.refusal Step.refuse Step.done Step.passes_now Step.examine Step.plan_search
  search_same a m j p q g = refl

  read_same : (a : Address) (m : Option ℕ) (j : ℕ) (p q : Bool) (k : Read) → k.just ≡ false
      → Step.plan_read l c (placed a m j p) st w.pack w.lent k ≡ Step.plan_read l c (placed a m j q) st w.pack w.lent k
  unfolding Drive.moved_past Drive.taken Step.refusal Step.refuse Step.plan_transfer Step.plan_record Step.plan_place Step.plan_read
  read_same a m j p q k h = rw h

  -- one that takes what was just passed takes the next record other than R0, where that was just passed
  read_passed : (a : Address) (m : Option ℕ) (j : ℕ) (t : Track) → track_in w.pack a ≡ Some t → (k : Read) → k.just ≡ true
      → Step.plan_read l c (placed a m (ahead t j + 1) true) st w.pack w.lent k ≡ Step.plan_read l c (placed a m j false) st w.pack w.lent k
  unfolding pick opt Drive.moved_past Drive.taken Step.refusal Step.refuse Step.plan_transfer Step.plan_record Step.plan_place Step.plan_read
  read_passed a m j t there k h = let e : ahead t j + 1 - 1 ≡ ahead t j = omega arith in rw (there, h, e)

  module _ (a : Address) (m : Option ℕ) (j : ℕ) where
    -- a unit check shows the mask alone
    reached_alike : (r s : Reached) → Alike r s → (f : Drive.Drive → Step.Plan)
        → ((b : Address) (n : Option ℕ) (i : ℕ) (p q : Bool) → f (placed b n i p) ≡ f (placed b n i q))
        → Step.on_reached r (Step.refuse l c (placed a m j true) st) f ≡ Step.on_reached s (Step.refuse l c (placed a m j false) st) f
    unfolding Step.on_reached Step.refusal Step.refuse
    reached_alike (reaches d) (reaches e) (places b n i p q) f same = same b n i p q
    reached_alike (fails x) (fails y) (checks k) f same = refl
    reached_alike (reaches d) (fails y) x4 f same = elim x4 [ ]
    reached_alike (fails x) (reaches e) x5 f same = elim x5 [ ]

    read_alike : Alike (Step.read_from w.pack 19 (placed a m j true)) (Step.read_from w.pack 19 (placed a m j false))
    read_alike = by (ahead_of w.pack m 19 a j)
      where
        by : Ahead w.pack m 19 a j → Alike (Step.read_from w.pack 19 (placed a m j true)) (Step.read_from w.pack 19 (placed a m j false))
        by (finds f) = rw (f.behind_area, f.behind_record) (places f.at m f.place f.passed false)
        by (ends k is) = rw (is true, is false) (checks k)

    search_multitrack_same : perform w l c (placed a m j true) st SearchIdMultitrack ≡ perform w l c (placed a m j false) st SearchIdMultitrack
    unfolding Step.refusal Step.refuse Step.counted Step.plan_search_multitrack Step.perform
    search_multitrack_same =
        choose _ (reached_alike _ _ (search_alike w.pack m a j) (λ e. Step.plan_search l c e st w.pack (argument w.lent l c))
        (λ b n i p q. search_same b n i p q (argument w.lent l c))) refl

    read_multitrack_same : (counts keys datas : Bool)
        → perform w l c (placed a m j true) st (reads_multitrack false counts keys datas) ≡ perform w l c (placed a m j false) st (reads_multitrack false counts keys datas)
    unfolding pick Step.take_from Step.plan_read_multitrack Step.perform
    read_multitrack_same counts keys datas =
        let k : Read = record { just = false; counts = counts; keys = keys; datas = datas } in
        reached_alike _ _ read_alike (λ e. Step.plan_read l c e st w.pack w.lent k) (λ b n i p q. read_same b n i p q k refl)

    perform_five : (k : Command) → On k → perform w l c (placed a m j true) st k ≡ perform w l c (placed a m j false) st k
    unfolding Step.refusal Step.refuse Step.done Step.counted Step.plan_mask Step.plan_transfer Step.plan_home Step.perform
    perform_five SetMask on_mask = refl
    perform_five SearchId on_search = choose _ (search_same a m j true false (argument w.lent l c)) refl
    perform_five ReadHome on_home = refl
    perform_five (ReadRecord k) on_read = read_same a m j true false k refl
    perform_five SearchIdMultitrack on_search_multitrack = search_multitrack_same
    perform_five (ReadMultitrack k) on_read_multitrack = read_multitrack_same k.counts k.keys k.datas
    perform_five Unlisted on_unlisted = refl
    perform_five NoOperation x' = elim x' [ ]
    perform_five Seek x'' = elim x'' [ ]
    perform_five SetSector x3 = elim x3 [ ]

    pub execute_five : bit_on 3 c.command ≡ true → execute w l c (placed a m j true) st ≡ execute w l c (placed a m j false) st
    unfolding Step.execute Step.program_check
    execute_five h = choose _ (perform_five _ (command_on c.command h)) refl

    perform_five_a : (t : Track) → track_in w.pack a ≡ Some t → (k : Command) → Off k
        → perform w l c (placed a m (ahead t j + 1) true) st k ≡ perform w l c (placed a m j false) st k
    unfolding Step.refusal Step.refuse Step.done Step.counted Step.plan_no_operation Step.plan_seek Step.plan_sector Step.perform
    perform_five_a t there NoOperation off_no_operation = refl
    perform_five_a t there Seek off_seek = refl
    perform_five_a t there SetSector off_sector = refl
    perform_five_a t there (ReadRecord k) off_read = read_passed a m j t there k refl
    perform_five_a t there Unlisted off_unlisted = refl
    perform_five_a t there SetMask x' = elim x' [ ]
    perform_five_a t there SearchId x'' = elim x'' [ ]
    perform_five_a t there ReadHome x3 = elim x3 [ ]
    perform_five_a t there SearchIdMultitrack x4 = elim x4 [ ]
    perform_five_a t there (ReadMultitrack _) x6 = elim x6 [ ]

    pub execute_five_a : (t : Track) → track_in w.pack a ≡ Some t → bit_on 3 c.command ≡ false → is_multitrack_data c.command ≡ false
        → execute w l c (placed a m (ahead t j + 1) true) st ≡ execute w l c (placed a m j false) st
    unfolding Step.execute Step.program_check
    execute_five_a t there off n = choose _ (perform_five_a t there _ (command_off c.command off n)) refl

    perform_reads_on : (f : Found w.pack m 19 a j) (k : Command) → ReadsOn k
        → perform w l c (placed f.at m (ahead f.track f.place + 1) true) st k ≡ perform w l c (placed a m j false) st k
    unfolding pick Step.on_reached Step.take_from Step.plan_read_multitrack Step.perform
    perform_reads_on f (ReadMultitrack k) reads_on = rw f.behind_record (read_passed f.at m f.place f.track f.there k refl)
    perform_reads_on f NoOperation x' = elim x' [ ]
    perform_reads_on f Seek x'' = elim x'' [ ]
    perform_reads_on f SetMask x3 = elim x3 [ ]
    perform_reads_on f SetSector x4 = elim x4 [ ]
    perform_reads_on f SearchId x5 = elim x5 [ ]
    perform_reads_on f ReadHome x6 = elim x6 [ ]
    perform_reads_on f (ReadRecord _) x8 = elim x8 [ ]
    perform_reads_on f SearchIdMultitrack x8 = elim x8 [ ]
    perform_reads_on f Unlisted x9 = elim x9 [ ]

    pub execute_five_a_multitrack : (f : Found w.pack m 19 a j) → is_multitrack_data c.command ≡ true
        → execute w l c (placed f.at m (ahead f.track f.place + 1) true) st ≡ execute w l c (placed a m j false) st
    unfolding Step.execute Step.program_check
    execute_five_a_multitrack f h = choose _ (perform_reads_on f _ (command_reads_on c.command h)) refl

    perform_failed : (x : Step.Check) → Step.read_from w.pack 19 (placed a m j false) ≡ fails x → (k : Command) → ReadsOn k
        → perform w l c (placed a m j false) st k ≡ Step.refuse l c (placed a m j false) st x
    unfolding pick Step.on_reached Step.take_from Step.plan_read_multitrack Step.perform
    perform_failed x from (ReadMultitrack k) reads_on = rw from
    perform_failed x from NoOperation x'' = elim x'' [ ]
    perform_failed x from Seek x3 = elim x3 [ ]
    perform_failed x from SetMask x4 = elim x4 [ ]
    perform_failed x from SetSector x5 = elim x5 [ ]
    perform_failed x from SearchId x6 = elim x6 [ ]
    perform_failed x from ReadHome x7 = elim x7 [ ]
    perform_failed x from (ReadRecord _) x9 = elim x9 [ ]
    perform_failed x from SearchIdMultitrack x9 = elim x9 [ ]
    perform_failed x from Unlisted x10 = elim x10 [ ]

    -- if it makes no program check
    pub execute_failed : (x : Step.Check) → Step.read_from w.pack 19 (placed a m j false) ≡ fails x → is_multitrack_data c.command ≡ true
        → Step.sound w.lent l (length st) c (command_of c.command) ≡ true
        → execute w l c (placed a m j false) st ≡ Step.refuse l c (placed a m j false) st x
    unfolding Step.execute pick
    execute_failed x from h ok = rw ok (perform_failed x from _ (command_reads_on c.command h))
