-- `read_command::read_home` meets its contract: by whether the image has the track. Assumes nothing.
use native.Mathlib.Omega.{arith}
use mathlib.Core.Path.{refl}
use borrow.Author.Tests.{not-true, not-false}
use Rattle.drive.specs.Step as Step
use Rattle.position.specs.Standing.{drive_of}
use Rattle.read_command.proofs.Moves.{inside_low, moved_low, ended_so}
use Rattle.read_command.proofs.Areas.{home_none, home_bytes, home_read}
use Rattle.read_command.proofs.read_home.Goals as goal

pub refuse-requires : goal.refuse-requires
refuse-requires c = record { low = inside_low _ _ c.requires.ready.short _ c.requires.ready.inside; in_bytes = c.requires.ready.bytes }

pub returns-then-not-d : goal.returns-then-not-d
returns-then-not-d c = record { homes = home_none _ _ _ _ _ (drive_of c.args.d) _ c.refuse.result (c.requires.standing.off (not-true _ c.if-not-d.true)) c.refuse.ensures.answers; kept = c.refuse.ensures.kept_always _ }

pub transfer-moved-requires : goal.transfer-moved-requires
transfer-moved-requires c = record { inside = c.requires.ready.inside; in_bytes = c.requires.ready.bytes; c_value = c.requires.ready.range; bytes_len_bound = omega arith }

pub settled-requires : goal.settled-requires
settled-requires c =
    moved_low _ _ _ _ _ _ _ c.transfer-moved.result c.transfer-moved.ensures.transfers c.transfer-moved.ensures.count_low c.requires.ready

pub returns : goal.returns
returns c =
    let on = c.requires.standing.on (not-false _ c.if-not-d.false) in
    let d = drive_of c.args.d in
    let st = c.args.storage.now in
    let ends = ended_so _ _ _ _ (home_bytes d) st _ c.transfer-moved.result c.transfer-moved.ensures.transfers 5 (Step.settled (home_bytes d) (drive_of c.at_index.result) st) c.settled.result refl (λ ps. c.settled.ensures.settles ps _ _) in record { homes = home_read _ _ _ _ _ d st c.settled.result _ on.0 _ c.requires.formed on.1.there c.at_index.ensures.value ends; kept = c.settled.ensures.kept_with _ c.at_index.ensures.standing }
