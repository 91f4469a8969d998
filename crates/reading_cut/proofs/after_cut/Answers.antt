-- `reading_cut::after_cut` meets its contract: by what recovery answers. Assumes nothing.
use Rattle.reading_cut.proofs.Answered.{again, closed, closed_low, corrected, refused, one, two, repeated}
use Rattle.reading_cut.proofs.after_cut.Goals as goal

pub returns-in-Restart : goal.returns-in-Restart
returns-in-Restart c =
    let a = c.args in record { after_cut = again a.chain.now a.x a.k a.storage.now a.program.now a.restart_arguments.now a.entry.now _ _ _ _ _ _ (rw c.in-Restart.is at c.recover_cut.ensures) c.from.ensures c.note.ensures; went_low = tt }

pub returns-in-Finished : goal.returns-in-Finished
returns-in-Finished c =
    let a = c.args in
    let done = rw c.in-Finished.is at c.recover_cut.ensures in record { after_cut = closed a.chain.now a.x a.k a.storage.now a.program.now a.restart_arguments.now a.entry.now _ _ _ _ _ done c.note-in-Finished.ensures; went_low = closed_low a.chain.now a.x a.k a.storage.now a.program.now a.restart_arguments.now _ _ _ _ c.requires.cut_low.csw_low done }

pub returns-in-CorrectedOnly : goal.returns-in-CorrectedOnly
returns-in-CorrectedOnly c =
    let a = c.args in record { after_cut = corrected a.chain.now a.x a.k a.storage.now a.program.now a.restart_arguments.now a.entry.now _ _ _ _ (rw c.in-CorrectedOnly.is at c.recover_cut.ensures) c.note-in-CorrectedOnly.ensures; went_low = c.requires.cut_low.csw_low }

pub returns-in-Refused : goal.returns-in-Refused
returns-in-Refused c =
    let a = c.args in record { after_cut = refused a.chain.now a.x a.k a.storage.now a.program.now a.restart_arguments.now a.entry.now _ _ _ a.entry.now _ _ (rw c.in-Refused.is at c.recover_cut.ensures) c.from-in-Refused.ensures; went_low = tt }

pub returns-in-ActionOne : goal.returns-in-ActionOne
returns-in-ActionOne c =
    let a = c.args in record { after_cut = one a.chain.now a.x a.k a.storage.now a.program.now a.restart_arguments.now a.entry.now _ _ _ a.entry.now (rw c.in-ActionOne.is at c.recover_cut.ensures); went_low = tt }

pub returns-in-ActionTwo : goal.returns-in-ActionTwo
returns-in-ActionTwo c =
    let a = c.args in record { after_cut = two a.chain.now a.x a.k a.storage.now a.program.now a.restart_arguments.now a.entry.now _ _ _ a.entry.now (rw c.in-ActionTwo.is at c.recover_cut.ensures); went_low = tt }

pub returns-in-Repeat : goal.returns-in-Repeat
returns-in-Repeat c =
    let a = c.args in record { after_cut = repeated a.chain.now a.x a.k a.storage.now a.program.now a.restart_arguments.now a.entry.now _ _ _ a.entry.now (rw c.in-Repeat.is at c.recover_cut.ensures); went_low = tt }
