-- The restart program of 5 and 5A, CCW by CCW: where each stands, and what the drive makes of it.
--   restarted                 a setting with that program and its arguments beside its chain
--   standing, placed, ahead   a state with no count left; a drive on a track; the place of the next record other than R0
--   seekCcw .. ticCcw         the program's CCWs
--   sectorAt .. last_at        their places
--   fetches                   what is fetched at the places that every variant has
--   fetch_mask, fetch_count   and at the others
--   fetch-count-multitrack
--   execute_seek              the drive is at the index of the track
--   execute_mask              the mask is set
--   execute_sector            nothing but the place changes
--   execute_search            the next count area is passed, and equal skips one CCW
--   carry_count               a read count takes the next record other than R0, and its bytes go nowhere
--   execute_count             so does a 12
--   execute_count_multitrack  and a 92, from where it reaches
use Rattle.std.specs.Prelude.{Option, Some, None}
use Prim.Native.Nat.{ℕ, ◌+◌, ◌*◌, ◌/◌, ◌%◌, ◌<◌}
use mathlib.Core.Path.{◌≡◌, refl, ap}
use mathlib.Core.Bool.{Bool, true, false}
use mathlib.Core.List.{List, [], ◌∷◌, ◌++◌}
use lib.Dec.{eqb}
use lib.ListN.{length, get_or, replicate}
use borrow.Author.Tests.{lt-ltb, eq-eqb}
use Rattle.base.specs.Choice.{pick, opt}
use Rattle.base.specs.Bytes.{part, two, three}
use Rattle.base.specs.Bits.{bit_on}
use Rattle.base.proofs.Bytes.{two_back, three_back}
use Rattle.base.proofs.Choice.{and_true}
use Rattle.address.specs.declared.Address.{Address}
use Rattle.address.specs.Order.{on_pack}
use Rattle.pack.specs.Pack.{Track, track_in}
use Rattle.faults.specs.Faults.{Fault}
use Rattle.abstract_machine.specs.Machine.{goes}
use Rattle.channel.specs.declared.Ccw.{Ccw}
use Rattle.channel.specs.declared.Location.{Location}
use Rattle.channel.specs.declared.Location.TheVariants.{Restart}
use Rattle.channel.specs.Ccw as Ccw
use Rattle.channel.specs.Ccw.{Lent, fetch}
use Rattle.channel.specs.Store.{put, store}
use Rattle.channel.specs.Walk as Walk
use Rattle.drive.specs.declared.Read.{Read}
use Rattle.drive.specs.Drive as Drive
use Rattle.drive.specs.Drive.{Drive, no_record}
use Rattle.drive.specs.Command as Command
use Rattle.drive.specs.Step as Step
use Rattle.drive.specs.Step.{State, Setting, execute, answer, moves, carry}
use Rattle.restart.specs.declared.ReadCount.{ReadCount}
use Rattle.restart.specs.declared.ReadCount.TheVariants.{Omitted, Single, Multitrack}
use Rattle.restart.specs.Restart as Program
use Rattle.restart.specs.Restart.{search_program, search_arguments}

-- ---- settings, states, drives

abbrev pub restarted : Setting → Address → Option ℕ → (sector r : ℕ) → (counts : ReadCount) → (to : ℕ) → Setting
restarted w a m sector r counts to = record {
  last = w.last;
  pack = w.pack;
  lent = record {
    chain = w.lent.chain;
    arguments = w.lent.arguments;
    program = search_program m counts to;
    restart_arguments = search_arguments a m sector r;
  };
}

-- before the CCW at a place, behind a last one that left no count
abbrev pub standing : (last at : Location) → Drive → List ℕ → State
standing last at d st = record { at = at; last = last; left = 0; drive = d; storage = st }

-- on a track, with no index passed
abbrev pub placed : Address → Option ℕ → (next : ℕ) → (passed : Bool) → Drive
placed a m next passed = record { at = a; next = next; passed = passed; passes = 0; mask = m }

-- from place j of a track round to the next record other than R0
abbrev pub ahead : Track → ℕ → ℕ
ahead t j = Drive.past_zero (Drive.turn (length t.records) j)

-- ---- the CCWs, and their places

abbrev pub ccw : (command address flags count : ℕ) → Ccw
ccw command address flags count = record { command = command; address = address; flags = flags; count = count }

abbrev pub seek_ccw : Ccw
seek_ccw = ccw 0x07 0x2000 0x40 6

abbrev pub mask_ccw : Ccw
mask_ccw = ccw 0x1f 0x2006 0x40 1

abbrev pub sector_ccw : Ccw
sector_ccw = ccw 0x23 0x2007 0x40 1

abbrev pub search_ccw : Ccw
search_ccw = ccw 0x31 0x2008 0x40 5

-- of 12 and of 92
abbrev pub count_ccw : (command : ℕ) → Ccw
count_ccw command = ccw command 0 0x50 8

-- what 12 and 92 read
abbrev pub count_alone : Read
count_alone = record { just = false; counts = true; keys = false; datas = false }

abbrev pub tic_ccw : ℕ → Ccw
tic_ccw to = ccw 0x08 to 0 0

abbrev pub sector_at : Option ℕ → ℕ
sector_at None = 8
sector_at (Some b) = 16

abbrev pub search_at : Option ℕ → ℕ
search_at m = sector_at m + 8

abbrev pub count_at : Option ℕ → ℕ
count_at m = search_at m + 8 + 8

abbrev pub last_at : Option ℕ → (counts : ReadCount) → ℕ
last_at m Omitted = count_at m
last_at m Single = count_at m + 8
last_at m Multitrack = count_at m + 8

-- ---- bytes

tic_bytes : (to : ℕ) → ◌≡◌ {A = Option Ccw} (Some (tic_ccw (to / 65536 * 65536 + (to / 256 % 256 * 256 + to % 256)))) (Some (tic_ccw to))
tic_bytes to = ap (λ n. Some (tic_ccw n)) (three_back to)

-- on one track identifiers are equal where record numbers are
same_track : (a : Address) (r s : ℕ) → Drive.same_bytes (Drive.address_bytes a ++ r ∷ []) (Drive.address_bytes a ++ s ∷ []) ≡ eqb r s
unfolding two Drive.address_bytes Drive.same_bytes
same_track a r s =
    let itself : (n : ℕ) → eqb n n ≡ true = λ n. eq-eqb n n refl in
    rw (itself (a.cylinder / 256), itself (a.cylinder % 256), itself (a.head / 256), itself (a.head % 256)) (and_true (eqb r s))

pick_inside : {A B : Type 0} (f : A → B) (b : Bool) (x y : A) → pick b (f x) (f y) ≡ f (pick b x y)
unfolding pick
pick_inside f true x y = refl
pick_inside f false x y = refl

-- ---- fetching

-- what an area's places hold if it is the restart program, with or without a mask, with or without the read count
pub record Fetches (p : Lent) (m : Option ℕ) (counts : ReadCount) (to : ℕ) : Type 0 where
  pub seek : fetch p (Restart 0) ≡ Some seek_ccw
  pub sector : fetch p (Restart (sector_at m)) ≡ Some sector_ccw
  pub search : fetch p (Restart (search_at m)) ≡ Some search_ccw
  pub again : fetch p (Restart (search_at m + 8)) ≡ Some (tic_ccw (0x1000 + search_at m))
  pub last : fetch p (Restart (last_at m counts)) ≡ Some (tic_ccw to)

module _ (w : Setting) (a : Address) (sector r to : ℕ) where
  abbrev lent : Option ℕ → ReadCount → Lent
  lent m counts = (restarted w a m sector r counts to).lent

  pub fetches : (m : Option ℕ) (counts : ReadCount) → Fetches (lent m counts) m counts to
  unfolding pick two three Ccw.fetch Ccw.fetch_in Ccw.ccw_at Program.ccw_bytes Program.tic_to Program.padded Program.mask_ccw Program.program_of Program.program_ending Program.search_address Program.count_ccw Program.searching Program.search_program
  fetches None Omitted = record { seek = refl; sector = refl; search = refl; again = refl; last = tic_bytes to }
  fetches None Single = record { seek = refl; sector = refl; search = refl; again = refl; last = tic_bytes to }
  fetches None Multitrack = record { seek = refl; sector = refl; search = refl; again = refl; last = tic_bytes to }
  fetches (Some b) Omitted = record { seek = refl; sector = refl; search = refl; again = refl; last = tic_bytes to }
  fetches (Some b) Single = record { seek = refl; sector = refl; search = refl; again = refl; last = tic_bytes to }
  fetches (Some b) Multitrack = record { seek = refl; sector = refl; search = refl; again = refl; last = tic_bytes to }

  pub fetch_mask : (b : ℕ) (counts : ReadCount) → fetch (lent (Some b) counts) (Restart 8) ≡ Some mask_ccw
  unfolding pick two three Ccw.fetch Ccw.fetch_in Ccw.ccw_at Program.ccw_bytes Program.tic_to Program.padded Program.mask_ccw Program.program_of Program.program_ending Program.search_address Program.count_ccw Program.searching Program.search_program
  fetch_mask b Omitted = refl
  fetch_mask b Single = refl
  fetch_mask b Multitrack = refl

  pub fetch_count : (m : Option ℕ) → fetch (lent m Single) (Restart (count_at m)) ≡ Some (count_ccw 0x12)
  unfolding pick two three Ccw.fetch Ccw.fetch_in Ccw.ccw_at Program.ccw_bytes Program.tic_to Program.padded Program.mask_ccw Program.program_of Program.program_ending Program.search_address Program.count_ccw Program.searching Program.search_program
  fetch_count None = refl
  fetch_count (Some b) = refl

  pub fetch_count_multitrack : (m : Option ℕ) → fetch (lent m Multitrack) (Restart (count_at m)) ≡ Some (count_ccw 0x92)
  unfolding pick two three Ccw.fetch Ccw.fetch_in Ccw.ccw_at Program.ccw_bytes Program.tic_to Program.padded Program.mask_ccw Program.program_of Program.program_ending Program.search_address Program.count_ccw Program.searching Program.search_program
  fetch_count_multitrack None = refl
  fetch_count_multitrack (Some b) = refl

  -- ---- executing, by the program of a mask m and at a place k of it

  module _ (m : Option ℕ) (counts : ReadCount) (k : ℕ) (st : List ℕ) where
    abbrev w' : Setting
    w' = restarted w a m sector r counts to

    -- the chain goes on at a place with a drive, and storage is as it was
    abbrev on : ℕ → Drive → Step.Answer
    on to d = goes (standing (Restart k) (Restart to) d st)

    pub execute_seek : (d : Drive) → d.mask ≡ None → on_pack w.last a ≡ true
        → execute w' (Restart k) seek_ccw d st ≡ answer (on (k + 8) (placed a None 0 false))
    unfolding pick two part bit_on Ccw.chains_data Ccw.chains_command Ccw.formed Ccw.next Ccw.arguments_at Ccw.arguments_base Ccw.argument_inside Ccw.argument Drive.at_index Drive.address_bytes Command.codes Command.look_up Command.command_of Step.onward Step.done Step.counted Step.plan_seek Step.protects Step.sought Step.sound Step.perform Step.execute Program.padded Program.mask_byte Program.restart_arguments_of Program.search_arguments
    execute_seek d unset is_on_pack = rw (two_back a.cylinder, two_back a.head, is_on_pack, unset)

    pub execute_mask : (d : Drive) (b : ℕ) → m ≡ Some b → d.mask ≡ None → Step.settable b ≡ true
        → execute w' (Restart k) mask_ccw d st ≡ answer (on (k + 8) (placed d.at m 0 false))
    unfolding pick two part bit_on Ccw.chains_data Ccw.chains_command Ccw.formed Ccw.next Ccw.arguments_at Ccw.arguments_base Ccw.argument_inside Ccw.argument Drive.at_index Drive.address_bytes Command.codes Command.look_up Command.command_of Step.onward Step.done Step.counted Step.is_set Step.plan_mask Step.sound Step.perform Step.execute Program.padded Program.mask_byte Program.restart_arguments_of Program.search_arguments
    execute_mask d b is unset may = rw (is, unset, may)

    pub execute_sector : (d : Drive) → sector < 128
        → execute w' (Restart k) sector_ccw d st ≡ answer (on (k + 8) (placed d.at d.mask 0 false))
    unfolding pick two part bit_on Ccw.chains_data Ccw.chains_command Ccw.formed Ccw.next Ccw.arguments_at Ccw.arguments_base Ccw.argument_inside Ccw.argument Drive.at_index Drive.address_bytes Command.codes Command.look_up Command.command_of Step.onward Step.done Step.counted Step.plan_sector Step.sound Step.perform Step.execute Program.padded Program.mask_byte Program.restart_arguments_of Program.search_arguments
    execute_sector d low = rw (lt-ltb sector 128)

    module _ (n : Option ℕ) (t : Track) (j : ℕ) (passed : Bool) where
      pub execute_search : track_in w.pack a ≡ Some t → j < length t.records → (get_or t.records j no_record).at ≡ a
          → execute w' (Restart k) search_ccw (placed a n j passed) st ≡ answer (on (pick (eqb r (get_or t.records j no_record).r) (k + 8 + 8) (k + 8)) (placed a n (j + 1) true))
      unfolding pick opt two part bit_on Ccw.chains_data Ccw.chains_command Ccw.formed Ccw.next Ccw.arguments_at Ccw.arguments_base Ccw.argument_inside Ccw.argument Drive.moved_past Drive.turn Drive.passes_index Drive.address_bytes Drive.identifier Command.codes Command.look_up Command.command_of Step.onward Step.done Step.counted Step.passes_now Step.examine Step.plan_search Step.sound Step.perform Step.execute Program.padded Program.mask_byte Program.restart_arguments_of Program.search_arguments
      execute_search there inside own =
          rw (there, lt-ltb j (length t.records), own, same_track a r (get_or t.records j no_record).r)
          (pick_inside (λ to. answer (on to (placed a n (j + 1) true))) (eqb r (get_or t.records j no_record).r) (k + 8 + 8) (k + 8))

    -- a read count, 12 or 92, from a drive on the track t: the next record other than R0 is taken, and its bytes go nowhere
    module _ (command : ℕ) (b : Address) (n : Option ℕ) (t : Track) (j : ℕ) (passed : Bool) where
      read_count : track_in w.pack b ≡ Some t → ahead t j < length t.records
          → Step.plan_read (Restart k) (count_ccw command) (placed b n j passed) st w.pack w'.lent count_alone
          ≡ moves (record {
            first = Restart k;
            bytes = Drive.count_area (get_or t.records (ahead t j) no_record);
            area = Step.nothing;
            after = placed b n (ahead t j + 1) true;
            walk = Walk.walked (replicate 8 None) (Restart k) (count_ccw command) 0 false;
          })
      unfolding pick opt two bit_on Ccw.chains_data Ccw.skips Drive.moved_past Drive.taken Drive.address_bytes Drive.identifier Drive.count_area Walk.behind_place Walk.place_under Walk.walk Step.included Step.bytes_of Step.area_of Step.plan_transfer Step.plan_record Step.plan_place Step.plan_read
      read_count there inside = rw (there, lt-ltb (ahead t j) (length t.records))

      pub carry_count : (fs : List Fault) → track_in w.pack b ≡ Some t → ahead t j < length t.records
          → carry fs st (Step.plan_read (Restart k) (count_ccw command) (placed b n j passed) st w.pack w'.lent count_alone)
          ≡ on (k + 8) (placed b n (ahead t j + 1) true)
      unfolding pick two bit_on put store Ccw.chains_data Ccw.chains_command Ccw.suppresses Ccw.next Drive.address_bytes Drive.identifier Drive.count_area Walk.incorrect_length Step.onward Step.settled Step.transferred Step.carry
      carry_count fs there inside = rw (read_count there inside)

    pub execute_count : (d : Drive)
        → execute w' (Restart k) (count_ccw 0x12) d st ≡ Step.plan_read (Restart k) (count_ccw 0x12) d st w.pack w'.lent count_alone
    unfolding pick bit_on Ccw.skips Ccw.formed Ccw.storage_inside Walk.readable Command.codes Command.look_up Command.command_of Step.sound Step.perform Step.execute
    execute_count d = refl

    -- from wherever a 92 reaches
    pub execute_count_multitrack : (d : Drive)
        → execute w' (Restart k) (count_ccw 0x92) d st
        ≡ Step.on_reached (Step.read_from w.pack 19 d) (Step.refuse (Restart k) (count_ccw 0x92) d st)
        (λ e. Step.plan_read (Restart k) (count_ccw 0x92) e st w.pack w'.lent count_alone)
    unfolding pick bit_on Ccw.skips Ccw.formed Ccw.storage_inside Walk.readable Command.codes Command.look_up Command.command_of Step.take_from Step.plan_read_multitrack Step.sound Step.perform Step.execute
    execute_count_multitrack d = refl
