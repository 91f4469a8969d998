-- `read_command::empty` meets its contract: the bytes' way, then how it settled. Assumes nothing.
use Rattle.read_command.proofs.Moves.{moved_low, ended_so}
use mathlib.Core.Path.{refl}
use Rattle.drive.specs.Step as Step
use Rattle.position.specs.Standing.{drive_of}
use Rattle.read_command.proofs.empty.Goals as goal

pub excepted-requires : goal.excepted-requires
excepted-requires c = moved_low _ _ _ _ _ _ _ c.transfer.result c.transfer.ensures.transfers c.transfer.ensures.count_low c.requires.ready

pub returns : goal.returns
returns c =
    let start = c.args in record { ends = ended_so _ _ _ _ start.bytes.now start.storage.now _ c.transfer.result c.transfer.ensures.transfers _ (Step.excepted start.bytes.now (drive_of start.e) start.storage.now) c.excepted.result refl (λ ps. c.excepted.ensures.excepts ps _ _); kept_always = c.excepted.ensures.kept_always }
