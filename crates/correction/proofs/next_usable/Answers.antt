-- `correction::next_usable` meets its contract: the CCW that comes next, by whether a read may use it. Assumes nothing.
use mathlib.Core.Path.{sym, ◌∙◌}
use mathlib.Core.List.{[]}
use native.Mathlib.Omega.{arith}
use Rattle.location.proofs.NextFits.{inside_next}
use Rattle.correction.proofs.Tests.{usable_broken, usable_got, usable_refused}
use Rattle.correction.proofs.next_usable.Goals as goal

pub next-requires : goal.next-requires
next-requires c = inside_next c.args.chain.now [] c.args.l c.requires (omega arith) (omega arith)

pub readable-requires : goal.readable-requires
readable-requires c = (rw c.in-Ok.is at c.resolve.ensures.got_inside).1

pub returns-then-readable : goal.returns-then-readable
returns-then-readable c =
    let q = rw (c.in-Ok.is, c.next.ensures) at c.resolve.ensures.resolves in
    let g = rw c.in-Ok.is at c.resolve.ensures.got_inside in
    let r = sym c.readable.ensures ∙ c.if-readable.true in record { next_usable = λ p u v. usable_got c.args.size _ _ _ r (q p u v); usable = (g.0, g.1, r) }

pub returns-in-Ok : goal.returns-in-Ok
returns-in-Ok c =
    let q = rw (c.in-Ok.is, c.next.ensures) at c.resolve.ensures.resolves in record { next_usable = λ p u v. usable_refused c.args.size _ _ _ (sym c.readable.ensures ∙ c.if-readable.false) (q p u v); usable = tt }

pub returns : goal.returns
returns c =
    let q = rw (c.in-Err.is, c.next.ensures) at c.resolve.ensures.resolves in record { next_usable = λ p u v. usable_broken c.args.size _ _ (q p u v); usable = tt }
