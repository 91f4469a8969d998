-- A read cut inside a CCW that chains data through a TIC, by computation: CCW 1 reads the last byte of that CCW, and goes on behind the TIC.
--   restarted   what action 9 makes of the report
--   rest        its CCW 1 goes on where the read was cut
--   uncut, resumed
--               where seven bytes of the read go, and where CCW 1 puts the last four of them
use Rattle.std.specs.Prelude.{Some, None}
use Prim.Native.Nat.{ℕ}
use native.Mathlib.Omega.{arith}
use mathlib.Core.Path.{◌≡◌, refl}
use mathlib.Core.Bool.{false}
use mathlib.Core.List.{List, [], ◌∷◌, ◌++◌}
use lib.ListN.{replicate}
use Rattle.base.specs.Choice.{pick, opt}
use Rattle.base.specs.Bytes.{two, three}
use Rattle.base.specs.Bits.{bit_on}
use Rattle.address.specs.declared.Model.TheVariants.{One}
use Rattle.address.specs.Model.{last_of}
use Rattle.address.specs.Order.{before, on_pack}
use Rattle.address.specs.Within.{within}
use Rattle.channel.specs.declared.Ccw.{Ccw}
use Rattle.channel.specs.declared.Location.TheVariants.{Chain}
use Rattle.channel.specs.Ccw as Ccw
use Rattle.channel.specs.Walk as Walk
use Rattle.channel.specs.Walk.{walked}
use Rattle.drive.specs.Command as Command
use Rattle.drive.specs.Step as Step
use Rattle.restart.specs.Restart as Program
use Rattle.restart.specs.Restart.{ccw_bytes, tic_to, padded, restart_arguments_of}
use Rattle.recovery.specs.Report.{Report}
use Rattle.recovery.specs.Recovery as Recovery
use Rattle.overflow_rest.specs.Rest.{rest_place, restart_lent, uncut_walk, rest_walk, RestGoesOn}
use Rattle.overflow_rest.proofs.Rest.{nine_goes_on}

-- four bytes to 0, then, behind the TIC, six bytes to 8
chain : List ℕ
chain = ccw_bytes 0x06 0 0x80 4 ++ tic_to 16 ++ ccw_bytes 0x00 8 0 6

given : Recovery.Given
given = record {
  last = last_of One;
  rows = [];
  chain = chain;
  extent = record { first = record { cylinder = 0; head = 0 }; last = record { cylinder = 2; head = 0 }; model = One };
}

-- three bytes were read: the first CCW has one left
report : Report
report = record {
  sense = 0 ∷ 0 ∷ 0 ∷ 0x06 ∷ replicate 13 0 ++ 3 ∷ replicate 6 0;
  csw = record { address = 8; unit = 0x0e; channel = 0; count = 1 };
  first = 0;
  mask = None;
  seek = Some (replicate 6 0);
  tries = 0;
}

storage : List ℕ
storage = replicate 16 0

-- seek, sector, 1A, CCW 1 and the last TIC
program : List ℕ
program = padded 64 (ccw_bytes 0x07 0x2000 0x40 6 ++ ccw_bytes 0x23 0x2007 0x40 1 ++ ccw_bytes 0x1a 0 0x50 5 ++ ccw_bytes 0x06 3 0x80 1 ++ tic_to 16)

arguments : List ℕ
arguments = restart_arguments_of (record { cylinder = 1; head = 0 }) None 0 []

restarted : Recovery.action_nine given report storage ≡ Recovery.restarts Recovery.nine program arguments storage
unfolding chain given report storage program arguments pick opt two three bit_on before on_pack within ccw_bytes tic_to Ccw.ccw_at Ccw.chains_data Ccw.chains_command Ccw.skips Ccw.is_tic Ccw.formed Ccw.address_of Ccw.next Ccw.fetch_in Ccw.fetch Ccw.target Ccw.landed Ccw.follow Ccw.resolve Ccw.storage_inside Walk.behind_place Walk.place_under Walk.readable Walk.chained Walk.walk Command.codes Command.look_up Command.command_of Step.sought Program.mask_ccw Program.program_ending Program.rest_ccw Program.tic_ccw Program.overflow_program Recovery.only_chain Recovery.seek_allowed Recovery.on_next Recovery.reads_data Recovery.cut_inside Recovery.user_track Recovery.retrace Recovery.overflow_read Recovery.overflow_restart Recovery.from_interrupted Recovery.overflow_walk Recovery.overflow Recovery.overflow_at Recovery.action_nine
restarted = refl

rest : RestGoesOn given report storage program arguments
unfolding chain given ccw_bytes tic_to two three
rest = (nine_goes_on given report storage Recovery.nine program arguments storage (omega arith) restarted).2

-- the CCW behind the TIC
behind : Ccw
behind = record { command = 0x00; address = 8; flags = 0; count = 6 }

uncut : uncut_walk given report storage (record { command = 0x06; address = 0; flags = 0x80; count = 4 }) 7
    ≡ walked (Some 0 ∷ Some 1 ∷ Some 2 ∷ Some 3 ∷ Some 8 ∷ Some 9 ∷ Some 10 ∷ []) (Chain 16) behind 3 false
unfolding chain given report storage behind pick two three bit_on ccw_bytes tic_to Ccw.ccw_at Ccw.chains_data Ccw.skips Ccw.is_tic Ccw.formed Ccw.next Ccw.fetch_in Ccw.fetch Ccw.target Ccw.landed Ccw.follow Ccw.resolve Ccw.storage_inside Walk.behind_place Walk.place_under Walk.readable Walk.chained Walk.walk Recovery.only_chain
uncut = refl

resumed : rest_walk (restart_lent chain [] program arguments) report storage (record { command = 0x06; address = 3; flags = 0x80; count = 1 }) 4
    ≡ walked (Some 3 ∷ Some 8 ∷ Some 9 ∷ Some 10 ∷ []) (Chain 16) behind 3 false
unfolding chain report storage program behind pick two three bit_on ccw_bytes tic_to padded rest_place Ccw.ccw_at Ccw.chains_data Ccw.skips Ccw.is_tic Ccw.formed Ccw.next Ccw.fetch_in Ccw.fetch Ccw.target Ccw.landed Ccw.follow Ccw.resolve Ccw.storage_inside Walk.behind_place Walk.place_under Walk.readable Walk.chained Walk.walk
resumed = refl
