-- `read_command::read_bytes` meets its contract: by the data area that is taken, and its fault. Assumes nothing.
use mathlib.Core.Path.{sym, ◌∙◌}
use lib.Dec.{eqb}
use borrow.Author.Tests.{eqb-true}
use Rattle.base.proofs.Choice.{and_left, and_right}
use Rattle.read_command.proofs.Areas.{named_found, not_empty, empty_read, faultless_read, faulted_read}
use Rattle.read_command.proofs.read_bytes.Goals as goal

pub returns-then-takes_empty : goal.returns-then-takes_empty
returns-then-takes_empty c =
    let k = c.args.k in
    let x = c.args.x in
    let both = sym c.takes_empty.ensures ∙ c.if-takes_empty.true in record { reads_bytes = empty_read _ _ _ _ _ k x c.args.bytes.now _ c.args.storage.now c.empty.result _ (and_left k.datas (eqb x.body x.next) both) (eqb-true _ _ (and_right k.datas (eqb x.body x.next) both)) c.empty.ensures.ends; kept_with = λ image s. c.empty.ensures.kept_always image }

pub read_faulted-requires : goal.read_faulted-requires
read_faulted-requires c =
    let found = rw c.in-Some.is at c.fault_taken.ensures in record { ready = c.requires.ready; bytes_len_bound = c.requires.bytes_len_bound; displacement_in_bounds = named_found _ c.args.k c.args.x _ _ found.0 c.requires.faults_inside found.1; place_low = c.requires.place_low }

pub returns-in-None : goal.returns-in-None
returns-in-None c =
    let none = rw c.in-None.is at c.fault_taken.ensures in record { reads_bytes = faultless_read _ _ _ _ _ c.args.k c.args.x c.args.bytes.now _ c.args.storage.now c.plain.result _ (sym c.takes_empty.ensures ∙ c.if-takes_empty.false) c.requires.body_le_next none c.plain.ensures.ends; kept_with = c.plain.ensures.kept_with }

pub returns-in-Some : goal.returns-in-Some
returns-in-Some c =
    let k = c.args.k in
    let x = c.args.x in
    let found = rw c.in-Some.is at c.fault_taken.ensures in
    let some = not_empty k x found.0 (sym c.takes_empty.ensures ∙ c.if-takes_empty.false) in record { reads_bytes = faulted_read _ _ _ _ _ k x c.args.bytes.now _ c.args.storage.now c.read_faulted.result _ found.0 some c.requires.body_le_next _ found.1 c.read_faulted.ensures.reads_faulted; kept_with = λ image s. c.read_faulted.ensures.kept_always image }
