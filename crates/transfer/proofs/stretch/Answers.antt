-- `transfer::stretch` meets its contract: a copy to the front of the part that is lent from the address on. Assumes nothing.
use lib.ListN.{length, take, drop}
use Prim.Native.Nat.{◌+◌, ◌-◌}
use native.Mathlib.Omega.{arith}
use mathlib.Core.Path.{◌≡◌, ap, sym, ◌∙◌}
use lib.ListN.{length-take, length-drop}
use Rattle.channel.proofs.Readable.{room}
use Rattle.transfer.proofs.Through.{nowhere, at_address}
use borrow.Author.Rules.{rules}
use Rattle.transfer.proofs.stretch.Goals as goal

pub returns-then-skips : goal.returns-then-skips
returns-then-skips c = nowhere _ _ _ _ (sym c.skips.ensures ∙ c.if-skips.true)

pub slice_bounds-put-count : goal.slice_bounds-put-count
slice_bounds-put-count c =
    let r = room _ _ c.requires.c_value (sym c.skips.ensures ∙ c.if-skips.false) in
    omega arith

pub slice_bounds-put-start : goal.slice_bounds-put-start
slice_bounds-put-start c =
    let r = room _ _ c.requires.c_value (sym c.skips.ensures ∙ c.if-skips.false) in
    omega arith

pub put-requires : goal.put-requires
put-requires c =
    let r = room _ _ c.requires.c_value (sym c.skips.ensures ∙ c.if-skips.false) in
    let a = c.args in
    let m : length (take (a.from + a.n - a.from) (drop a.from a.bytes.now)) ≡ a.n = simp (length-take, length-drop) (omega arith) in record { from_in_bounds = rw m (simp (length-take, length-drop) (omega arith)); from_len_bound = rw m (search rules) }

pub returns : goal.returns
returns c =
    let a = c.args in
    let n : a.from + a.n - a.from ≡ a.n = omega arith in
    at_address a.c (drop a.from a.bytes.now) a.n a.storage.now (sym c.skips.ensures ∙ c.if-skips.false) _ _
    (ap (λ k. take k (drop a.from a.bytes.now)) n) (simp (length-take, length-drop) (omega arith)) c.put.ensures
