-- `reading_cut::recover_cut` meets its contract: recovery by what the report of the cut tells. Assumes nothing.
use Rattle.reading_cut.proofs.recover_cut.Goals as goal

pub recover_told-requires : goal.recover_told-requires
recover_told-requires c =
    let lent = c.requires.lendable in record { chain_len_bound = lent.chain_short; storage_len_bound = lent.storage_short; told_low = c.told_by-t.ensures.told_low; program_len = lent.program_full; restart_arguments_len = lent.restart_arguments_full }

pub returns : goal.returns
returns c = c.recover_told.ensures _ (c.told_by-t.ensures.cut_tells _ _)
