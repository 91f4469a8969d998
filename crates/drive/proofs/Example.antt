-- Document 01's worked example, by computation: the chain is cut at its first 06, and the faultless run ends with 0C 00 0000.
use Rattle.std.specs.Prelude.{None}
use Prim.Native.Nat.{ℕ}
use mathlib.Core.Path.{◌≡◌, refl}
use mathlib.Core.Bool.{false}
use mathlib.Core.List.{List, [], ◌∷◌, ◌++◌}
use lib.ListN.{replicate}
use Rattle.base.specs.Choice.{pick, opt}
use Rattle.base.specs.Bytes.{part, two}
use Rattle.base.specs.Bits.{bit_on}
use Rattle.address.specs.declared.Model.TheVariants.{One}
use Rattle.address.specs.Model.{last_of}
use Rattle.address.specs.Order.{same, on_pack}
use Rattle.pack.specs.Pack.{Record, Track, track_in}
use Rattle.faults.specs.Faults.{Fault, naming}
use Rattle.abstract_machine.specs.Machine.{ended, cut, run}
use Rattle.channel.specs.declared.Location.TheVariants.{Chain}
use Rattle.channel.specs.Csw.{csw_at}
use Rattle.channel.specs.Ccw as Ccw
use Rattle.channel.specs.Store.{put, store}
use Rattle.channel.specs.Walk as Walk
use Rattle.drive.specs.Drive as Drive
use Rattle.drive.specs.Command as Command
use Rattle.drive.specs.Step as Step
use Rattle.drive.specs.Run as Run

chain : List ℕ
chain =
    (0x07 ∷ 0 ∷ 0 ∷ 0 ∷ 0x40 ∷ 0 ∷ 0 ∷ 6 ∷ []) ++ (0x31 ∷ 0 ∷ 0 ∷ 6 ∷ 0x40 ∷ 0 ∷ 0 ∷ 5 ∷ []) ++ (0x08 ∷ 0 ∷ 0 ∷ 8 ∷ 0 ∷ 0 ∷ 0 ∷ 0 ∷ [])
    ++ (0x06 ∷ 0 ∷ 0 ∷ 0 ∷ 0x40 ∷ 0 ∷ 0 ∷ 4 ∷ []) ++ (0x06 ∷ 0 ∷ 0 ∷ 4 ∷ 0 ∷ 0 ∷ 0 ∷ 4 ∷ [])

arguments : List ℕ
arguments = 0 ∷ 0 ∷ 0 ∷ 0 ∷ 0 ∷ 1 ∷ 0 ∷ 0 ∷ 0 ∷ 1 ∷ 1 ∷ []

record_of : ℕ → List ℕ → Record
record_of r body = record { at = record { cylinder = 0; head = 1 }; r = r; key = []; body = body }

pack : List Track
pack =
    record {
      at = record { cylinder = 0; head = 1 };
      records = record_of 0 (replicate 8 0) ∷ record_of 1 (0xc1 ∷ 0xc2 ∷ 0xc3 ∷ 0xc4 ∷ []) ∷ record_of 2 (0xd1 ∷ 0xd2 ∷ 0xd3 ∷ 0xd4 ∷ []) ∷ [];
    }
    ∷ []

fault : Fault
fault = record { at = record { cylinder = 0; head = 1 }; r = 1; displacement = 3; pattern = 0 ∷ 1 ∷ 0 ∷ [] }

setting : Step.Setting
setting = record { last = last_of One; pack = pack; lent = record { chain = chain; arguments = arguments; program = []; restart_arguments = [] } }

-- the fault changes the third byte of the four: displacement 3 names the second, and its pattern byte is 0
cut_at_the_first_read : Run.run_from (fault ∷ []) setting 4096 (Chain 0) (replicate 16 0)
    ≡ cut (record {
      at = record { cylinder = 0; head = 1 };
      r = 1;
      restart = 4;
      error = 3;
      pattern = 0 ∷ 1 ∷ 0 ∷ [];
      over = false;
      first = Chain 24;
      mask = None;
      csw = record { address = 0x20; unit = 0x0e; channel = 0; count = 0 };
      storage = 0xc1 ∷ 0xc2 ∷ 0xc2 ∷ 0xc4 ∷ replicate 12 0;
    })
unfolding chain arguments record_of pack fault setting pick opt part two bit_on same on_pack track_in naming run put store Ccw.ccw_at Ccw.chains_data Ccw.chains_command Ccw.suppresses Ccw.skips Ccw.is_tic Ccw.formed Ccw.address_of Ccw.next Ccw.fetch_in Ccw.fetch Ccw.target Ccw.landed Ccw.follow Ccw.resolve Ccw.arguments_at Ccw.arguments_base Ccw.argument_inside Ccw.argument Ccw.storage_inside Walk.behind_place Walk.place_under Walk.readable Walk.chained Walk.walk Walk.incorrect_length Drive.initial Drive.at_index Drive.moved_past Drive.turn Drive.passes_index Drive.past_zero Drive.taken Drive.address_bytes Drive.identifier Drive.count_area Drive.same_bytes Command.codes Command.look_up Command.command_of csw_at Step.onward Step.done Step.counted Step.plan_seek Step.protects Step.sought Step.passes_now Step.examine Step.plan_search Step.plan_transfer Step.included Step.bytes_of Step.area_of Step.plan_record Step.plan_place Step.plan_read Step.sound Step.perform Step.execute Step.dispatch Step.plan Step.length_status Step.settled Step.spread Step.xored Step.arriving Step.faulted Step.by_fault Step.transferred Step.carry Step.step Run.start Run.tic_first Run.run_from
cut_at_the_first_read = refl

faultless_end : Run.run_from [] setting 4096 (Chain 0) (replicate 16 0)
    ≡ ended (record {
      csw = record { address = 0x28; unit = 0x0c; channel = 0; count = 0 };
      sense = replicate 24 0;
      mask = None;
      storage = 0xc1 ∷ 0xc2 ∷ 0xc3 ∷ 0xc4 ∷ 0xd1 ∷ 0xd2 ∷ 0xd3 ∷ 0xd4 ∷ replicate 8 0;
    })
unfolding chain arguments record_of pack setting pick opt part two bit_on same on_pack track_in naming run put store Ccw.ccw_at Ccw.chains_data Ccw.chains_command Ccw.suppresses Ccw.skips Ccw.is_tic Ccw.formed Ccw.address_of Ccw.next Ccw.fetch_in Ccw.fetch Ccw.target Ccw.landed Ccw.follow Ccw.resolve Ccw.arguments_at Ccw.arguments_base Ccw.argument_inside Ccw.argument Ccw.storage_inside Walk.behind_place Walk.place_under Walk.readable Walk.chained Walk.walk Walk.incorrect_length Drive.initial Drive.at_index Drive.moved_past Drive.turn Drive.passes_index Drive.past_zero Drive.taken Drive.address_bytes Drive.identifier Drive.count_area Drive.same_bytes Command.codes Command.look_up Command.command_of csw_at Step.no_sense Step.onward Step.done Step.counted Step.plan_seek Step.protects Step.sought Step.passes_now Step.examine Step.plan_search Step.plan_transfer Step.included Step.bytes_of Step.area_of Step.plan_record Step.plan_place Step.plan_read Step.sound Step.perform Step.execute Step.dispatch Step.plan Step.length_status Step.settled Step.by_fault Step.transferred Step.carry Step.step Run.start Run.tic_first Run.run_from
faultless_end = refl
