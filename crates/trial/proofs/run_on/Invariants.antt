-- `trial::run_on` meets its contract. Invariant: the commands left, from the state and storage that the loop has come to, come to what all of
-- them come to; the drive stands in the image, and a CSW can show the state. Assumes nothing.
use Prim.Native.Nat.{◌-◌}
use Rattle.address.specs.Model.{last_of}
use Rattle.position.specs.Standing.{Standing}
use Rattle.command.specs.Answer.{StateLow}
use Rattle.trial.proofs.Runs.{Alike}
use Rattle.trial.proofs.run_on.Given as goal

abbrev pub invariant-loop : goal.invariant-loop
invariant-loop l = record {
  standing : Standing l.image l.here.drive;
  low : StateLow l.here;
  alike : Alike (last_of l.m) l.chain l.arguments l.program l.restart_arguments l.image l.faults (l.limit - l.counter) l.here l.storage l.limit l.initial.here
      l.initial.storage;
}
