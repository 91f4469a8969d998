-- The examples, by computation: `one_cut_lem`, `two_cuts_lem`, `two_heads_lem`, `past_heads_lem` and `model_eleven_lem`; `no_image_of_model_one`.
use native.Mathlib.Omega.{arith}
use mathlib.Core.Path.{◌≡◌, refl, ap, sym, ◌∙◌}
use mathlib.Core.Bool.{true, false}
use mathlib.Core.List.{[], map}
use lib.ListN.{length}
use Rattle.base.specs.Choice.{pick, opt}
use Rattle.base.specs.Bytes.{part, two, three}
use Rattle.base.specs.Bits.{bit_on}
use Rattle.questions.specs.Areas.{chain_fits, limit_fits, run_areas}
use Rattle.fields.specs.Fields as Fields
use Rattle.address.specs.Order.{same, before, on_pack}
use Rattle.address.specs.Within.{extent_of, within, sound_extent}
use Rattle.pack.specs.Pack as Pack
use Rattle.pack.specs.Pack.{pack_of, track_in}
use Rattle.image.specs.Image as Image
use Rattle.image.specs.Image.{well_formed, image_answer}
use Rattle.faults.specs.Faults as Faults
use Rattle.faults.specs.Faults.{naming, faults_at, sound_faults}
use Rattle.abstract_machine.specs.Machine.{ended, run, notes, Along, ends_behind}
use Rattle.abstract_machine.specs.Reading as Reading
use Rattle.abstract_machine.specs.Reading.{Log, ends, limited, exhausted, stops}
use Rattle.channel.specs.declared.Location.TheVariants.{Chain}
use Rattle.channel.specs.Csw.{csw_at}
use Rattle.channel.specs.Ccw as Ccw
use Rattle.channel.specs.Store.{put, store}
use Rattle.channel.specs.Walk as Walk
use Rattle.drive.specs.Drive as Drive
use Rattle.drive.specs.Command as Command
use Rattle.drive.specs.Step as Step
use Rattle.drive.specs.Step.{step}
use Rattle.drive.specs.Run as Run
use Rattle.drive.specs.Run.{start, run_from}
use Rattle.restart.specs.Restart as Restart
use Rattle.recovery.specs.Table as Table
use Rattle.recovery.specs.Table.{rows}
use Rattle.recovery.specs.Correct as Correct
use Rattle.recovery.specs.Recovery as Recovery
use Rattle.recovery.specs.Recovery.{fetch_mode}
use Rattle.demand_three.specs.WholeReading as Whole
use Rattle.demand_three.specs.WholeReading.{Restarted, Entry, Whole, whole_reading, final}
use Rattle.demand_three.specs.Demand.{Lending, setting_of, Begins, all_inside, Provided, takes_faulted, is_failed, step_fails, ends_by_step, ends_at_count, at_count, end_of, recovered, faulted_ones, faulted_areas, LikeFaultless}
use Rattle.demand_three.proofs.DemandThree.{demand_three}
use Rattle.demand_three_examples.specs.Examples.{finding, reading, arguments, begun, recorded, first_body, second_body, fault_fields, lending, worked, over_heads, first_fault, second_fault, end_with, last_read, one_cut, two_cuts, two_heads, past_heads, model_eleven, Example, Instance, NoImageOfModelOne}

-- what a reading made and built, however it ended
log_of : Whole → Log Entry Restarted
log_of (ends g f) = g
log_of (limited g s) = g
log_of (exhausted g k) = g
log_of (stops g n k) = g

abbrev reading_of : Lending → Whole
reading_of g = whole_reading g.faults (setting_of g) rows (extent_of g.model g.extent) g.limit g.storage

-- What is computed of an example: the questions, the extent, the faultless run with the masks before each of its commands, the faulted data areas that
-- it reads, and the whole reading.
record Computed (x : Example) : Type 0 where
  begins : Begins x.lent
  inside : all_inside (extent_of x.lent.model x.lent.extent) x.lent.faults ≡ true
  runs : run_from [] (setting_of x.lent) x.lent.limit (Chain 0) x.lent.storage ≡ ended x.faultless
  unchecked : x.faultless.csw.channel ≡ 0
  unfetched : Along (step [] (setting_of x.lent)) (λ s. fetch_mode s.drive.mask ≡ false) x.lent.limit (start (Chain 0) x.lent.storage)
  areas : faulted_areas x.lent ≡ map recovered x.made
  recoveries : (log_of (reading_of x.lent)).made ≡ x.made
  restarts : length (log_of (reading_of x.lent)).built ≡ x.restarts
  shows : (end_of x.lent x.faultless).csw ≡ x.csw

computed : Computed one_cut × Computed two_cuts × Computed two_heads × Computed past_heads × Computed model_eleven
unfolding finding reading arguments begun recorded first_body second_body fault_fields lending worked over_heads first_fault second_fault end_with last_read one_cut two_cuts two_heads past_heads model_eleven log_of pick opt part two three bit_on chain_fits limit_fits run_areas Fields.begins Fields.front Fields.after_front Fields.fields_up_to Fields.fields_at Fields.folded Fields.folded_at same before on_pack extent_of within sound_extent Pack.record_of Pack.home_of Pack.led_by_record Pack.led_by_home Pack.led_by Pack.decode_at pack_of track_in Pack.numbered Pack.record_in Image.sound_record Image.member Image.zero_first Image.sound_records Image.sound_track Image.follows Image.sound_tracks Image.no_records Image.well_formed_from well_formed Faults.fault_of Faults.led_by_fault faults_at naming Faults.missing Faults.sound_fault sound_faults run put store Ccw.ccw_at Ccw.chains_data Ccw.chains_command Ccw.skips Ccw.is_tic Ccw.formed Ccw.address_of Ccw.next Ccw.fetch_in Ccw.fetch Ccw.target Ccw.landed Ccw.follow Ccw.resolve Ccw.arguments_at Ccw.arguments_base Ccw.argument_inside Ccw.argument Ccw.storage_inside Walk.behind_place Walk.place_under Walk.readable Walk.walk Walk.incorrect_length Drive.initial Drive.at_index Drive.moved_past Drive.turn Drive.passes_index Drive.past_zero Drive.taken Drive.address_bytes Drive.identifier Drive.same_bytes Drive.count_area Command.codes Command.look_up Command.command_of csw_at Step.no_sense Step.onward Step.done Step.counted Step.plan_seek Step.plan_sector Step.protects Step.sought Step.passes_now Step.examine Step.plan_search Step.plan_transfer Step.included Step.bytes_of Step.area_of Step.plan_record Step.plan_place Step.plan_read Step.sound Step.perform Step.execute Step.dispatch Step.plan Step.settled Step.length_status Step.spread Step.xored Step.arriving Step.faulted Step.by_fault Step.transferred Step.carry step Step.is_named Step.cut_sense start Run.tic_first run_from setting_of all_inside recovered faulted_ones fetch_mode Restart.ccw_bytes Restart.tic_to Restart.padded Restart.mask_ccw Restart.program_of Restart.program_ending Restart.search_address Restart.count_ccw Restart.searching Restart.search_program Restart.mask_byte Restart.restart_arguments_of Restart.search_arguments Table.rows Table.covers Table.fits Table.action_for Correct.mend Correct.same_place Correct.overwritten Correct.corrected Recovery.only_chain Recovery.seek_allowed Recovery.on_next Recovery.reads_data Recovery.less_unit_check Recovery.alike Recovery.sensible Recovery.correction Recovery.agrees Recovery.retrace Recovery.search_restart Recovery.after_walk Recovery.walked_to Recovery.action_five Recovery.act Recovery.recover Whole.report_of Whole.entry_of Whole.answered Whole.recover_cut Whole.restarted_in Whole.restarted_run Whole.given_in whole_reading final Reading.noted Reading.reading notes Along Step.area_taken Step.area_in Step.protects_step Step.next_head Step.stepped Step.read_from Step.take_from Step.on_reached Step.plan_read_multitrack Step.refusal Step.refuse Step.check_sense Restart.count_place Restart.is_multitrack_data Restart.count_for ends_behind takes_faulted is_failed step_fails ends_by_step ends_at_count at_count end_of faulted_areas
computed = (
  record {
    begins = record { areas = refl; image = refl; listed = refl; faults = refl; extent = (refl, refl) };
    inside = refl;
    runs = refl;
    unchecked = refl;
    unfetched = (refl, (refl, (refl, (refl, (refl, tt)))));
    areas = refl;
    recoveries = refl;
    restarts = refl;
    shows = refl;
  },
  record {
    begins = record { areas = refl; image = refl; listed = refl; faults = refl; extent = (refl, refl) };
    inside = refl;
    runs = refl;
    unchecked = refl;
    unfetched = (refl, (refl, (refl, (refl, (refl, tt)))));
    areas = refl;
    recoveries = refl;
    restarts = refl;
    shows = refl;
  },
  record {
    begins = record { areas = refl; image = refl; listed = refl; faults = refl; extent = (refl, refl) };
    inside = refl;
    runs = refl;
    unchecked = refl;
    unfetched = (refl, (refl, (refl, (refl, (refl, tt)))));
    areas = refl;
    recoveries = refl;
    restarts = refl;
    shows = refl;
  },
  record {
    begins = record { areas = refl; image = refl; listed = refl; faults = refl; extent = (refl, refl) };
    inside = refl;
    runs = refl;
    unchecked = refl;
    unfetched = (refl, (refl, (refl, (refl, (refl, (refl, tt))))));
    areas = refl;
    recoveries = refl;
    restarts = refl;
    shows = refl;
  },
  record {
    begins = record { areas = refl; image = refl; listed = refl; faults = refl; extent = (refl, refl) };
    inside = refl;
    runs = refl;
    unchecked = refl;
    unfetched = (refl, (refl, (refl, (refl, (refl, tt)))));
    areas = refl;
    recoveries = refl;
    restarts = refl;
    shows = refl;
  },
)

-- ---- so they are instances

module _ (x : Example) (c : Computed x) where
  provided : Provided x.lent x.faultless
  provided = record { inside = c.inside; faultless = c.runs; sound = λ h. omega (arith, c.unchecked); unfetched = c.unfetched }

  like : LikeFaultless x.lent x.faultless
  like = demand_three x.lent x.faultless c.begins provided

  same_log : ◌≡◌ {A = Log Entry Restarted} (record { made = like.made; built = like.built }) (log_of (reading_of x.lent))
  unfolding log_of
  same_log = ap log_of (sym like.same_end)

  instance : Instance x
  instance = record {
    begins = c.begins;
    provided = provided;
    areas = c.areas;
    like = like;
    recoveries = ap (λ (l : Log Entry Restarted). l.made) same_log ∙ c.recoveries;
    restarts = ap (λ (l : Log Entry Restarted). length l.built) same_log ∙ c.restarts;
    shows = c.shows;
  }

pub one_cut_lem : Instance one_cut
one_cut_lem = instance one_cut computed.0

pub two_cuts_lem : Instance two_cuts
two_cuts_lem = instance two_cuts computed.1

pub two_heads_lem : Instance two_heads
two_heads_lem = instance two_heads computed.2

pub past_heads_lem : Instance past_heads
past_heads_lem = instance past_heads computed.3

pub model_eleven_lem : Instance model_eleven
model_eleven_lem = instance model_eleven computed.4

pub no_image_of_model_one : NoImageOfModelOne model_eleven
unfolding begun recorded first_body second_body lending worked first_fault second_fault model_eleven pick opt part two Fields.begins Fields.front Fields.after_front Fields.fields_up_to Fields.fields_at Fields.folded Fields.folded_at same before on_pack Pack.record_of Pack.home_of Pack.led_by_record Pack.led_by_home Pack.led_by Pack.decode_at Image.sound_record Image.member Image.zero_first Image.sound_records Image.sound_track Image.follows Image.sound_tracks Image.no_records Image.well_formed_from well_formed image_answer Drive.address_bytes
no_image_of_model_one = refl
