-- `read_command::fault_taken` meets its contract: the list is asked where data are taken. Assumes nothing.
use borrow.Author.Tests.{not-true, not-false}
use Rattle.read_command.proofs.Areas.{none_taken, one_taken}
use Rattle.read_command.proofs.fault_taken.Goals as goal

pub returns-then-not-k : goal.returns-then-not-k
returns-then-not-k c =
    let a = c.args in
    none_taken a.faults.now a.k a.x (not-true _ c.if-not-k.true)

pub returns : goal.returns
returns c =
    let a = c.args in
    one_taken a.faults.now a.k a.x c.find_fault.result (not-false _ c.if-not-k.false) c.find_fault.ensures
