-- `execute::perform_on_track` meets its contract: by the command. Assumes nothing.
use mathlib.Core.Path.{sym, ◌∙◌}
use Rattle.drive.specs.Command.{command_of}
use Rattle.read_command.proofs.Moves.{inside_low}
use Rattle.execute.proofs.Commands.{reads_record, other_moveless, argument_there, home_ready, record_ready, home_performs, record_performs, other_performs}
use borrow.Enum.Refused.{opened}
use Rattle.execute.proofs.perform_on_track.Goals as goal

pub read_home-requires : goal.read_home-requires
read_home-requires c =
    let a = c.args in record { ready = home_ready a.chain.now a.arguments.now a.program.now a.restart_arguments.now _ a.c a.storage.now a.k c.in-ReadHome.is c.requires.begun.short c.requires.in_area c.requires.unchecked; formed = c.requires.begun.whole; standing = c.requires.standing }

pub read_record-requires : goal.read_record-requires
read_record-requires c =
    let a = c.args in record { ready = record_ready a.chain.now a.arguments.now a.program.now a.restart_arguments.now _ a.c a.storage.now a.k _ c.in-ReadRecord.is c.requires.begun.short c.requires.in_area c.requires.unchecked; begun = c.requires.begun; reads_record = reads_record _ _ (sym c.in-ReadRecord.is ∙ c.requires.k_value); standing = c.requires.standing }

pub perform-requires : goal.perform-requires
perform-requires c =
    let a = c.args in record { standing = c.requires.standing; low = inside_low _ _ c.requires.begun.short _ c.requires.in_area.inside; in_bytes = c.requires.in_area.bytes; k_value = rw c.requires.k_value (other_moveless (command_of a.c.command) (rw c.requires.k_value at (opened c.in_default.in_default-own.keys3))); argument_in = argument_there a.chain.now a.arguments.now a.program.now a.restart_arguments.now _ a.c a.storage.now a.k c.requires.unchecked }

pub returns-in-ReadHome : goal.returns-in-ReadHome
returns-in-ReadHome c =
    let a = c.args in record { performs = home_performs _ a.arguments.now _ a.restart_arguments.now _ a.image.now _ _ a.c a.k a.storage.now c.read_home.result _ _ c.in-ReadHome.is c.read_home.ensures.homes; kept = c.read_home.ensures.kept }

pub returns-in-ReadRecord : goal.returns-in-ReadRecord
returns-in-ReadRecord c =
    let a = c.args in record { performs = record_performs _ a.arguments.now _ a.restart_arguments.now _ a.image.now _ _ a.c a.k a.storage.now c.read_record.result _ _ _ c.in-ReadRecord.is c.read_record.ensures.carries; kept = c.read_record.ensures.kept }

pub returns-in_default : goal.returns-in_default
returns-in_default c =
    let a = c.args in record { performs = other_performs a.chain.now a.arguments.now a.program.now a.restart_arguments.now _ a.image.now a.faults.now _ a.c a.k a.storage.now c.perform.result _ c.perform.ensures.performs; kept = c.perform.ensures.kept }
