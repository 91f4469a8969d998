-- `read_command::read_faulted` meets its contract: the bytes as they arrive, their way, then how it settled. Assumes nothing.
use Rattle.read_command.proofs.Moves.{moved_low, inside_low, ended_so, front_length}
use native.Mathlib.Omega.{arith}
use mathlib.Core.Path.{refl, ap, sym, ◌∙◌}
use lib.ListN.{length, take}
use Rattle.faults.specs.FaultAt.{fault_from}
use Rattle.channel.specs.Store.{store}
use Rattle.drive.specs.Step as Step
use Rattle.position.specs.Standing.{drive_of}
use Rattle.command.specs.Answer.{answer_of}
use Rattle.read_command.proofs.read_faulted.Goals as goal

pub slice_bounds-transfer-end : goal.slice_bounds-transfer-end
slice_bounds-transfer-end c =
    sym (front_length _ c.arrive.new.held 16384 c.arrive.ensures.held_len_unchanged c.requires.bytes_len_bound)

pub transfer-moved-requires : goal.transfer-moved-requires
transfer-moved-requires c =
    let n = front_length _ c.arrive.new.held 16384 c.arrive.ensures.held_len_unchanged c.requires.bytes_len_bound in record { inside = c.requires.ready.inside; in_bytes = c.requires.ready.bytes; c_value = c.requires.ready.range; bytes_len_bound = omega (arith, n, c.requires.bytes_len_bound) }

pub faulted-requires : goal.faulted-requires
faulted-requires c = record { low_moved = moved_low _ _ _ _ _ _ _ c.transfer-moved.result c.transfer-moved.ensures.transfers c.transfer-moved.ensures.count_low c.requires.ready; faulted_low = record { place = c.requires.place_low; few = c.requires.bytes_len_bound; inside = c.requires.displacement_in_bounds; first_low = inside_low _ _ c.requires.ready.short _ c.requires.ready.inside } }

pub returns : goal.returns
returns c =
    let a = c.args in
    let n = front_length _ c.arrive.new.held 16384 c.arrive.ensures.held_len_unchanged c.requires.bytes_len_bound in record {
      reads_faulted = λ y g h.
          ended_so _ _ _ _ (take (length a.bytes.now) c.arrive.new.held) a.storage.now _ c.transfer-moved.result c.transfer-moved.ensures.transfers _
          (Step.faulted a.l y (fault_from a.f) a.bytes.now (drive_of a.e) a.storage.now) c.faulted.result n
          (λ ps. c.faulted.ensures.cuts_off ps y a.bytes.now a.storage.now g h refl ∙ ap (λ s. answer_of c.faulted.result (store ps s a.storage.now)) (sym c.arrive.ensures.held_after));
      kept_always = c.faulted.ensures.kept_always;
    }
