-- T1 to T12 hold: `cases_hold`, one proof over the table.
use mathlib.Core.Path.{◌≡◌, refl}
use mathlib.Core.List.{List, [], ◌∷◌, map}
use Rattle.base.specs.Choice.{pick, opt}
use Rattle.base.specs.Bytes.{part, two, three}
use Rattle.base.specs.Bits.{bit_on}
use Rattle.address.specs.Order.{before, on_pack}
use Rattle.address.specs.Within.{within}
use Rattle.channel.specs.Ccw as Ccw
use Rattle.channel.specs.Walk as Walk
use Rattle.drive.specs.Command as Command
use Rattle.drive.specs.Step.{sought, spread}
use Rattle.restart.specs.Restart.{ccw_bytes, count_for}
use Rattle.recovery.specs.Table as Table
use Rattle.recovery.specs.Table.{rows, action_for}
use Rattle.recovery.specs.Correct as Correct
use Rattle.recovery.specs.Recovery as Recovery
use Rattle.recovery.specs.Recovery.{recover}
use Rattle.recovery_cases.specs.Cases.{Case, cases, found, expected, AllHold, by_sense, by_seek, by_places, seeks, with_bytes, given, sense, csw, reported, one_read, two_ccws}

all_hold : (ks : List Case) → map found ks ≡ map expected ks → AllHold ks
all_hold [] h = tt
all_hold (k ∷ ks) h = ((cc), all_hold ks (cc))

pub cases_hold : AllHold cases
unfolding cases found expected by_sense by_seek by_places seeks with_bytes given sense csw reported one_read two_ccws pick opt part two three bit_on before on_pack within Ccw.ccw_at Ccw.chains_data Ccw.chains_command Ccw.suppresses Ccw.skips Ccw.is_tic Ccw.formed Ccw.address_of Ccw.next Ccw.fetch_in Ccw.fetch Ccw.target Ccw.landed Ccw.follow Ccw.resolve Ccw.storage_inside Walk.behind_place Walk.place_under Walk.readable Walk.chained Walk.walk Walk.incorrect_length Command.codes Command.look_up Command.command_of sought spread ccw_bytes count_for rows Table.covers Table.fits action_for Correct.mend Correct.same_place Correct.overwritten Correct.corrected Recovery.only_chain Recovery.seek_allowed Recovery.on_next Recovery.reads_data Recovery.fetch_mode Recovery.less_unit_check Recovery.alike Recovery.sensible Recovery.retrace Recovery.agrees Recovery.correction Recovery.search_restart Recovery.after_walk Recovery.walked_to Recovery.action_five Recovery.home_restart Recovery.interrupted Recovery.user_track Recovery.with_track Recovery.action_eight Recovery.tried Recovery.act recover
cases_hold = all_hold cases refl
