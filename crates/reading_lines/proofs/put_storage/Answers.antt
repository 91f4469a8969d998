-- `reading_lines::put_storage` meets its contract: a storage of fewer than 16 bytes is its own front. Assumes nothing.
use native.Mathlib.Omega.{arith}
use mathlib.Core.Path.{sym}
use lib.Seq.{length-take-le}
use Rattle.reading_lines.proofs.Texts.{storage_put, short_put}
use borrow.Author.Rules.{rules}
use Rattle.reading_lines.proofs.put_storage.Goals as goal

pub returns-then-storage-lt16 : goal.returns-then-storage-lt16
returns-then-storage-lt16 c = record { puts = short_put _ c.if-storage-lt16.true c.put_bytes-short.ensures.puts c.put.ensures.puts; upper_bound = search rules }

pub slice_bounds-put_bytes-end : goal.slice_bounds-put_bytes-end
slice_bounds-put_bytes-end c =
    let st = c.args.storage.now in
    sym (length-take-le 16 st c.if-storage-lt16.false)

pub put_bytes-end-requires : goal.put_bytes-end-requires
put_bytes-end-requires c =
    let st = c.args.storage.now in
    rw (length-take-le 16 st c.if-storage-lt16.false) (omega arith)

pub put-requires-2 : goal.put-requires-2
put-requires-2 c =
    let st = c.args.storage.now in
    omega (arith, c.put_bytes-end.ensures.value, length-take-le 16 st c.if-storage-lt16.false)

pub returns : goal.returns
returns c =
    let st = c.args.storage.now in record { puts = storage_put _ c.put_bytes-end.ensures.puts c.put-2.ensures.puts; upper_bound = omega (arith, c.put-2.ensures.value, c.put_bytes-end.ensures.value, length-take-le 16 st c.if-storage-lt16.false) }
