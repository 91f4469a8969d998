-- `read_command::read_at` meets its contract: the record's bytes are a part of the image. Assumes nothing.
use mathlib.Core.Path.{refl, ap, sym}
use native.Mathlib.Omega.{arith}
use lib.ListN.{length}
use Rattle.base.specs.Bytes.{part}
use Rattle.pack.specs.Places.{record_from}
use Rattle.read_bytes.proofs.Counted.{counted, room}
use Rattle.read_bytes.proofs.Parts.{part_inside}
use Rattle.read_command.proofs.Records.{data_length, bytes_are, bytes_few, faults_inside, place_low}
use Rattle.read_command.proofs.read_at.Goals as goal

pub first-from-requires : goal.first-from-requires
first-from-requires c =
    room _ _ (counted c.args.image.now c.requires.lies.found.0 c.args.x c.requires.lies.found.1)

pub slice_bounds-read_bytes-count : goal.slice_bounds-read_bytes-count
slice_bounds-read_bytes-count c =
    let i = part_inside _ _ c.requires.lies.within _ _ c.requires.reads_record in
    omega (arith, i.0, i.1, c.first-from.ensures, c.last-to.ensures)

pub slice_bounds-read_bytes-start : goal.slice_bounds-read_bytes-start
slice_bounds-read_bytes-start c =
    let i = part_inside _ _ c.requires.lies.within _ _ c.requires.reads_record in
    omega (arith, i.0, i.1, c.first-from.ensures, c.last-to.ensures)

pub slice_bounds-read_bytes-end : goal.slice_bounds-read_bytes-end
slice_bounds-read_bytes-end c =
    let i = part_inside _ _ c.requires.lies.within _ _ c.requires.reads_record in
    omega (arith, i.0, i.1, c.first-from.ensures, c.last-to.ensures)

pub read_bytes-requires : goal.read_bytes-requires
unfolding part
read_bytes-requires c =
    let a = c.args in
    let same = bytes_are a.image.now a.x c.requires.begun.whole c.requires.lies _ _ c.requires.reads_record c.first-from.result c.last-to.result c.first-from.ensures c.last-to.ensures c.hold.ensures in
    let few = bytes_few a.image.now a.x c.requires.begun.whole c.requires.lies _ _ c.requires.reads_record c.first-from.result c.last-to.result c.first-from.ensures c.last-to.ensures in record { ready = c.requires.ready; bytes_len_bound = few; body_le_next = c.requires.lies.within.body_first; faults_inside = faults_inside _ _ _ _ c.requires.begun a.x c.requires.lies a.k _ (ap length (sym same)); place_low = place_low a.image.now a.x c.requires.lies c.hold.ensures }

pub returns : goal.returns
unfolding part record_from
returns c =
    let a = c.args in
    let same = bytes_are a.image.now a.x c.requires.begun.whole c.requires.lies _ _ c.requires.reads_record c.first-from.result c.last-to.result c.first-from.ensures c.last-to.ensures c.hold.ensures in record { carries = c.read_bytes.ensures.reads_bytes (record_from a.image.now a.x) refl refl (data_length a.image.now a.x c.requires.begun.whole c.requires.lies) same; kept_with = c.read_bytes.ensures.kept_with }
