-- A whole reading: run, recover, run on (document 01, "Bounds of the work").
use Rattle.std.specs.Prelude.{ℕ, List, [], None}
use Rattle.questions.specs.declared.Question.{Question}
use Rattle.questions.specs.Areas.{restart_limit}
use Rattle.address.specs.declared.Address.{Address}
use Rattle.address.specs.declared.Extent.{Extent}
use Rattle.faults.specs.Faults.{Fault}
use Rattle.abstract_machine.specs.Machine.{Result}
use Rattle.abstract_machine.specs.Reading.{CutAnswer, restart, finish, stop, Reading, reading}
use Rattle.channel.specs.declared.Location.TheVariants.{Chain, Restart}
use Rattle.channel.specs.declared.Csw.{Csw}
use Rattle.channel.specs.Ccw.{address_of}
use Rattle.drive.specs.Step.{End, Cut, cut_sense, Setting}
use Rattle.drive.specs.Run.{Limit, run_from}
use Rattle.recovery.specs.Table.{Row}
use Rattle.recovery.specs.Report.{Report}
use Rattle.recovery.specs.Recovery as Recovery
use Rattle.recovery.specs.Recovery.{Kind, five, Given, recover}

-- A restart: its program, its arguments, and storage as the correction left it.
pub record Restarted : Type 0 where
  pub program : List ℕ
  pub restart_arguments : List ℕ
  pub storage : List ℕ

-- What a reading ends with.
pub record Final : Type 0 where
  pub csw : Csw
  pub storage : List ℕ

-- A recovery that was made: its action, and the record.
pub record Entry : Type 0 where
  pub kind : Kind
  pub at : Address
  pub r : ℕ

-- "stopped", by an action or by a question's number
pub data Stopped : Type 0 where
  by_action : ℕ → Stopped
  by_question : Question → Stopped

-- The report of a cut: sense, CSW, the address of the read's first CCW, and the mask where one is set.
unfoldable pub report_of : Cut → Report
report_of k = record { sense = cut_sense k; csw = k.csw; first = address_of k.first; mask = k.mask; seek = None; tries = 0 }

-- what is noted of a recovery: its action, and the record whose data area cut the run
unfoldable pub entry_of : Kind → Cut → Entry
entry_of kind k = record { kind = kind; at = k.at; r = k.r }

-- "Any other end of a run is its end, as are 'finished' and 'corrected only' (the cut's CSW)." "An action 2 or a number 9 met at a cut ends
-- it as 'stopped', with that number, the cut's CSW, and storage as the reads left it."
unfoldable pub answered : Cut → Recovery.Recovery → CutAnswer Entry Restarted Final Stopped
answered k (Recovery.refused q) = stop (by_question q)
answered k Recovery.action_one = stop (by_action 1)
answered k Recovery.action_two = stop (by_action 2)
answered k Recovery.repeats = stop (by_action 3)
answered k (Recovery.corrected_only st) = finish (entry_of five k) (record { csw = k.csw; storage = st })
answered k (Recovery.finished w st) = finish (entry_of five k) (record { csw = w; storage = st })
answered k (Recovery.restarts kind program restart_arguments st) = restart (entry_of kind k) (record { program = program; restart_arguments = restart_arguments; storage = st })

-- recovery from the report of a cut, with storage as the run left it
unfoldable pub recover_cut : Given → Cut → CutAnswer Entry Restarted Final Stopped
recover_cut g k = answered k (recover g (report_of k) k.storage)

-- the setting of a restarted run: the same pack, chain and arguments
unfoldable pub restarted_in : Setting → Restarted → Setting
restarted_in w r = record {
  last = w.last;
  pack = w.pack;
  lent = record { chain = w.lent.chain; arguments = w.lent.arguments; program = r.program; restart_arguments = r.restart_arguments };
}

-- "a restarted run has 8,192"; "all meet the whole fault list"
unfoldable pub restarted_run : List Fault → Setting → Restarted → Result Limit End Cut
restarted_run fs w r = run_from fs (restarted_in w r) restart_limit (Restart 0) r.storage

-- "Any other end of a run is its end": its CSW and storage
unfoldable pub final : End → Final
final e = record { csw = e.csw; storage = e.storage }

-- what recovery is told in a reading
unfoldable pub given_in : Setting → List Row → Extent → Given
given_in w rows x = record { last = w.last; rows = rows; chain = w.lent.chain; extent = x }

-- how a whole reading ends, with the recoveries that it made and the restarts that it built
abbrev pub Whole : Type 0
Whole = Reading Entry Restarted Limit Final Cut Stopped

-- The reading of a chain with a command limit, from storage as lent.
unfoldable pub whole_reading : List Fault → Setting → List Row → Extent → ℕ → List ℕ → Whole
whole_reading fs w rows x limit st =
    reading (restarted_run fs w) (recover_cut (given_in w rows x)) final limit (record { made = []; built = [] }) (run_from fs w limit (Chain 0) st)
