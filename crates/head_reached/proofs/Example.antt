-- The chain of the complaint, by computation: it seeks track 000/00, steps two heads, and meets the mask on head 2. The restart seeks 000/03.
--   stepped_two_heads    how its run ends
--   met                  the state from which its last command meets the mask
--   seeks_head_three     what recovery makes of the report of this end
use Rattle.std.specs.Prelude.{Some}
use Prim.Native.Nat.{ℕ}
use mathlib.Core.Path.{◌≡◌, refl}
use mathlib.Core.Bool.{true}
use mathlib.Core.List.{List, [], ◌∷◌, ◌++◌}
use lib.ListN.{replicate}
use Rattle.base.specs.Choice.{pick, opt}
use Rattle.base.specs.Bytes.{part, two, three}
use Rattle.base.specs.Bits.{bit_on}
use Rattle.address.specs.declared.Model.TheVariants.{One}
use Rattle.address.specs.Model.{last_of}
use Rattle.address.specs.Order.{before, same, on_pack}
use Rattle.address.specs.Within.{within}
use Rattle.pack.specs.Pack.{Track, track_in}
use Rattle.abstract_machine.specs.Machine.{ended, run}
use Rattle.channel.specs.declared.Location.TheVariants.{Chain}
use Rattle.channel.specs.Csw.{csw_at}
use Rattle.channel.specs.Ccw as Ccw
use Rattle.channel.specs.Store.{put, store}
use Rattle.channel.specs.Walk as Walk
use Rattle.drive.specs.Drive as Drive
use Rattle.drive.specs.Command as Command
use Rattle.drive.specs.Step as Step
use Rattle.drive.specs.Run as Run
use Rattle.restart.specs.Restart.{ccw_bytes, program_of, restart_arguments_of}
use Rattle.recovery.specs.Table.{rows}
use Rattle.recovery.specs.Report.{Report}
use Rattle.recovery.specs.Recovery as Recovery
use Rattle.head_reached.specs.Head.{by_read, ProtectedEnd, restart_at}
use Rattle.head_reached.proofs.Head.{goes_on_behind}

-- seek, three times the next record's count area, mask, twice more the next record's count area; all are skipped
chain : List ℕ
chain =
    ccw_bytes 0x07 0 0x40 6 ++ ccw_bytes 0x92 0 0x50 8 ++ ccw_bytes 0x92 0 0x50 8 ++ ccw_bytes 0x92 0 0x50 8 ++ ccw_bytes 0x1f 6 0x40 1 ++ ccw_bytes 0x92 0 0x50 8
    ++ ccw_bytes 0x92 0 0x50 8

arguments : List ℕ
arguments = 0 ∷ 0 ∷ 0 ∷ 0 ∷ 0 ∷ 0 ∷ 0x18 ∷ []

-- a track of cylinder 0 with R0 and R1
track : ℕ → Track
track head =
    record {
      at = record { cylinder = 0; head = head };
      records = record { at = record { cylinder = 0; head = head }; r = 0; key = []; body = [] }
          ∷ record { at = record { cylinder = 0; head = head }; r = 1; key = []; body = [] }
          ∷ [];
    }

setting : Step.Setting
setting = record {
  last = last_of One;
  pack = track 0 ∷ track 1 ∷ track 2 ∷ track 3 ∷ [];
  lent = record { chain = chain; arguments = arguments; program = []; restart_arguments = [] };
}

-- the last CCW stands at 0030
end : Step.End
end = record { csw = record { address = 0x38; unit = 0x0e; channel = 0; count = 8 }; sense = 0 ∷ 4 ∷ 0 ∷ 0 ∷ 0 ∷ 0 ∷ 2 ∷ replicate 17 0; mask = Some 0x18; storage = [] }

stepped_two_heads : Run.run_from [] setting 4096 (Chain 0) [] ≡ ended end
unfolding chain arguments track setting end ccw_bytes pick opt part two three bit_on same on_pack track_in run put store csw_at Ccw.ccw_at Ccw.chains_data Ccw.chains_command Ccw.suppresses Ccw.skips Ccw.is_tic Ccw.formed Ccw.address_of Ccw.next Ccw.fetch_in Ccw.fetch Ccw.target Ccw.landed Ccw.follow Ccw.resolve Ccw.arguments_at Ccw.arguments_base Ccw.argument_inside Ccw.argument Ccw.storage_inside Walk.behind_place Walk.place_under Walk.readable Walk.chained Walk.walk Walk.incorrect_length Drive.initial Drive.at_index Drive.moved_past Drive.turn Drive.passes_index Drive.past_zero Drive.taken Drive.address_bytes Drive.identifier Drive.count_area Command.codes Command.look_up Command.command_of Step.no_sense Step.check_sense Step.refusal Step.refuse Step.onward Step.done Step.counted Step.plan_seek Step.plan_mask Step.protects Step.is_set Step.settable Step.sought Step.plan_transfer Step.included Step.bytes_of Step.area_of Step.plan_record Step.plan_place Step.plan_read Step.on_reached Step.protects_step Step.next_head Step.stepped Step.read_from Step.take_from Step.plan_read_multitrack Step.sound Step.perform Step.execute Step.dispatch Step.plan Step.length_status Step.settled Step.transferred Step.carry Step.step Run.start Run.tic_first Run.run_from
stepped_two_heads = refl

-- before the last command, behind R1 of head 2
state : Step.State
state = record {
  at = Chain 0x30;
  last = Chain 0x28;
  left = 0;
  drive = record { at = record { cylinder = 0; head = 2 }; next = 2; passed = true; passes = 0; mask = Some 0x18 };
  storage = [];
}

met : ProtectedEnd [] setting state end
unfolding chain arguments track setting end state ccw_bytes pick opt part two three bit_on same track_in csw_at Ccw.ccw_at Ccw.chains_data Ccw.chains_command Ccw.suppresses Ccw.skips Ccw.is_tic Ccw.formed Ccw.address_of Ccw.next Ccw.fetch_in Ccw.fetch Ccw.target Ccw.landed Ccw.follow Ccw.resolve Ccw.storage_inside Walk.readable Drive.at_index Drive.turn Drive.passes_index Drive.past_zero Command.codes Command.look_up Command.command_of Step.check_sense Step.refusal Step.refuse Step.on_reached Step.protects_step Step.next_head Step.stepped Step.read_from Step.take_from Step.plan_read_multitrack Step.sound Step.perform Step.execute Step.dispatch Step.plan Step.carry Step.step
met = record {
  place = 0x30;
  ccw = record { command = 0x92; address = 0; flags = 0x50; count = 8 };
  head = 2;
  comes = refl;
  meets = by_read _ refl;
  ends_it = refl;
  sensed = refl;
}

given : Recovery.Given
given = record {
  last = last_of One;
  rows = rows;
  chain = chain;
  extent = record { first = record { cylinder = 0; head = 0 }; last = record { cylinder = 0; head = 3 }; model = One };
}

-- tag 14 is the argument of the chain's seek
report : Report
report = record { sense = end.sense; csw = end.csw; first = 0; mask = end.mask; seek = Some (part arguments 0 6); tries = 0 }

seeks_head_three : (st : List ℕ) → Recovery.recover given report st
    ≡ Recovery.restarts Recovery.ten_a (program_of (Some 0x18) (ccw_bytes 0x1a 0 0x50 5) 0x30) (restart_arguments_of (record { cylinder = 0; head = 3 }) (Some 0x18) 0 []) st
unfolding arguments setting state end given report part pick opt before on_pack within Drive.at_index Step.next_head Step.sought Recovery.seek_allowed Recovery.user_track restart_at met
seeks_head_three st =
    (goes_on_behind given [] setting state end report (record { cylinder = 0; head = 0 }) st refl refl met (record { sense = refl; csw = refl; mask = refl }) refl refl).1
