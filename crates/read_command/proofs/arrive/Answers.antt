-- `read_command::arrive` meets its contract: a copy, then the pattern in it. Assumes nothing.
use Rattle.copy.proofs.Lists.{filled}
use Rattle.read_command.proofs.Moves.{joined, put_back}
use native.Mathlib.Omega.{arith}
use mathlib.Core.Path.{refl, ap, sym, ◌∙◌}
use lib.ListN.{length}
use Rattle.faults.specs.FaultAt.{fault_from}
use Rattle.drive.specs.Step.{arriving}
use borrow.Author.Rules.{rules}
use Rattle.read_command.proofs.arrive.Goals as goal

pub slice_bounds-arrive-end-2 : goal.slice_bounds-arrive-end-2
slice_bounds-arrive-end-2 c =
    let start = c.args in
    sym (ap length (filled start.bytes.now start.held.now _ c.put.ensures))

pub arrive-requires : goal.arrive-requires
arrive-requires c =
    let n = ap length (filled c.args.bytes.now c.args.held.now _ c.put.ensures) in
    omega (arith, n, c.requires.displacement_in_bounds)

pub returns : goal.returns
unfolding fault_from
returns c =
    let bs = c.args.bytes.now in
    let z = c.args.held.now in
    let n = put_back bs z _ c.arrive.new.bytes c.put.ensures c.requires.bytes_in_bounds (search rules) in
    let there = c.arrive.ensures (fault_from c.args.f) refl refl in record { held_after = joined (length bs) _ _ n ∙ there ∙ ap (λ s. arriving s (fault_from c.args.f)) (filled bs z _ c.put.ensures); held_len_unchanged = search rules }
