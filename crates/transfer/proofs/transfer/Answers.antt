-- `transfer::transfer` meets its contract. Invariant: what is left of the read at the CCW that it has come to leaves what the whole read leaves.
-- Measure: the bytes left; each CCW takes at least one. Assumes nothing.
use mathlib.Core.Path.{refl, sym, ◌∙◌}
use Rattle.base.proofs.Choice.{err_is}
use Rattle.transfer.specs.Transfer.{transferred}
use Rattle.channel.proofs.Readable.{positive}
use Rattle.location.proofs.NextFits.{inside_next}
use Rattle.transfer.proofs.Through.{rest, same_size, short_at, out_at, broken_at, refused_at, on_at}
use native.Mathlib.Omega.{arith}
use Rattle.transfer.proofs.transfer.Goals as goal

pub loop-storage-init : goal.loop-storage-init
loop-storage-init c =
    (refl, omega arith, c.requires.in_bytes, c.requires.inside, c.requires.c_value, λ p e f. refl)

pub stretch-requires : goal.stretch-requires
stretch-requires c =
    let i = c.loop-storage.invariant in record { c_value = i.4; n_le_count = omega arith; n_in_bounds = omega arith; n_bound = omega (arith, c.requires.bytes_len_bound) }

pub returns-then-n-k : goal.returns-then-n-k
unfolding transferred rest
returns-then-n-k c =
    let i = c.loop-storage.invariant in
    let s = c.loop-storage.storage in
    let m = c.args.bytes.now in record { transfers = λ p u v. short_at p c.loop-storage.here c.loop-storage.word m c.loop-storage.from s _ i.4 c.if-n-k.true c.stretch.ensures ∙ i.5 p u v; count_low = omega (arith, i.2.count) }

pub stretch-requires-in-loop-storage : goal.stretch-requires-in-loop-storage
stretch-requires-in-loop-storage c =
    let i = c.loop-storage.invariant in record { c_value = i.4; n_le_count = omega arith; n_in_bounds = omega arith; n_bound = omega (arith, c.requires.bytes_len_bound) }

pub returns-then-not-chains_data : goal.returns-then-not-chains_data
unfolding transferred rest
returns-then-not-chains_data c =
    let i = c.loop-storage.invariant in
    let s = c.loop-storage.storage in
    let m = c.args.bytes.now in
    let k = c.if-n-k.false in record { transfers = λ p u v. out_at p c.loop-storage.here c.loop-storage.word m c.loop-storage.from s _ i.4 k c.stretch-in-loop-storage.ensures (sym c.chains_data.ensures ∙ c.if-not-chains_data.true) ∙ i.5 p u v; count_low = omega arith }

pub next-requires : goal.next-requires
next-requires c = inside_next _ _ _ c.loop-storage.invariant.3 (omega arith) (omega arith)

pub returns-in_err-x : goal.returns-in_err-x
unfolding transferred rest
returns-in_err-x c =
    let i = c.loop-storage.invariant in
    let s = c.loop-storage.storage in
    let m = c.args.bytes.now in
    let k = c.if-n-k.false in
    let f = sym c.chains_data.ensures ∙ c.if-not-chains_data.false in
    let q = rw (c.in_err-x.was, c.next.ensures) at c.resolve.ensures.resolves in
    rw (err_is _ c.from_residual.ensures.1)
    (record { transfers = λ p u v. broken_at p c.loop-storage.here c.loop-storage.word m c.loop-storage.from s _ i.4 k c.stretch-in-loop-storage.ensures f _ (q p u v) ∙ i.5 p u v; count_low = tt })

pub readable-requires : goal.readable-requires
readable-requires c =
    (rw c.in_ok-x.was at c.resolve.ensures.got_inside).1

pub returns-then-not-readable : goal.returns-then-not-readable
unfolding transferred rest
returns-then-not-readable c =
    let i = c.loop-storage.invariant in
    let s = c.loop-storage.storage in
    let m = c.args.bytes.now in
    let k = c.if-n-k.false in
    let f = sym c.chains_data.ensures ∙ c.if-not-chains_data.false in
    let q = rw (c.in_ok-x.was, c.next.ensures) at c.resolve.ensures.resolves in record { transfers = λ p u v. refused_at p c.loop-storage.here c.loop-storage.word m c.loop-storage.from s _ i.4 k c.stretch-in-loop-storage.ensures f _ _ (q p u v) (sym c.readable.ensures ∙ c.if-not-readable.true) ∙ i.5 p u v; count_low = tt }

pub loop-storage-smaller : goal.loop-storage-smaller
loop-storage-smaller c =
    let i = c.loop-storage.invariant in
    let s = c.loop-storage.storage in
    let m = c.args.bytes.now in
    let k = c.if-n-k.false in
    let w = positive _ _ i.4 in
    omega arith

pub loop-storage-preserved : goal.loop-storage-preserved
loop-storage-preserved c =
    let i = c.loop-storage.invariant in
    let s = c.loop-storage.storage in
    let m = c.args.bytes.now in
    let k = c.if-n-k.false in
    let f = sym c.chains_data.ensures ∙ c.if-not-chains_data.false in
    let q = rw (c.in_ok-x.was, c.next.ensures) at c.resolve.ensures.resolves in
    let g = rw c.in_ok-x.was at c.resolve.ensures.got_inside in
    let r = sym c.readable.ensures ∙ c.if-not-readable.false in (
      same_size c.loop-storage.word m c.loop-storage.from s _ i.4 k c.stretch-in-loop-storage.ensures ∙ i.0,
      omega arith,
      g.1,
      g.0,
      r,
      λ p u v. sym (on_at p c.loop-storage.here c.loop-storage.word m c.loop-storage.from s _ i.4 k c.stretch-in-loop-storage.ensures f _ _ (q p u v) r) ∙ i.5 p u v,
    )
