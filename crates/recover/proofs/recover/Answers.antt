-- `recover::recover` meets its contract: the questions in order. Assumes nothing.
use mathlib.Core.Path.{sym, ◌∙◌}
use Rattle.recover.proofs.Calls.{areas_say, told_in, wrong_areas, ill_formed, off_pack, answers}
use Rattle.recover.proofs.Finished.{recovered_low}
use Rattle.recover.proofs.recover.Goals as goal

pub returns-then-not-areas_fit : goal.returns-then-not-areas_fit
returns-then-not-areas_fit c = let a = c.args in record { after_after = wrong_areas a.m a.chain.now a.report.now a.extent.now a.storage.now a.program.now a.restart_arguments.now (sym c.areas_fit.ensures ∙ c.if-not-areas_fit.true); recovered_low = tt }

pub returns-in-Err : goal.returns-in-Err
returns-in-Err c =
    let a = c.args in record { after_after = ill_formed a.m a.chain.now a.report.now a.extent.now a.storage.now a.program.now a.restart_arguments.now (sym c.areas_fit.ensures ∙ c.if-not-areas_fit.false) _ c.in-Err.q c.read.ensures.value c.read.ensures.bounded c.in-Err.is; recovered_low = tt }

pub extent_of-x-requires : goal.extent_of-x-requires
extent_of-x-requires c =
    (areas_say _ _ _ _ _ (sym c.areas_fit.ensures ∙ c.if-not-areas_fit.false)).extent_full

pub returns-then-not-on_pack : goal.returns-then-not-on_pack
returns-then-not-on_pack c =
    let a = c.args in record { after_after = off_pack a.m a.chain.now a.report.now a.extent.now a.storage.now a.program.now a.restart_arguments.now (sym c.areas_fit.ensures ∙ c.if-not-areas_fit.false) _ _ c.read.ensures.value c.in-Ok.is _ c.extent_of-x.ensures (sym c.on_pack.ensures ∙ c.if-not-on_pack.true); recovered_low = tt }

pub tell-t-requires : goal.tell-t-requires
tell-t-requires c = rw c.in-Ok.is at c.read.ensures.bounded

pub recover_told-requires : goal.recover_told-requires
recover_told-requires c =
    let fit = areas_say _ _ _ _ _ (sym c.areas_fit.ensures ∙ c.if-not-areas_fit.false) in record { chain_len_bound = fit.chain_short; storage_len_bound = fit.storage_short; told_low = c.tell-t.ensures.told_low; program_len = fit.program_full; restart_arguments_len = fit.restart_arguments_full }

pub returns : goal.returns
returns c =
    let a = c.args in
    let told = told_in a.m a.extent.now _ _ _ c.extent_of-x.ensures c.tell-t.ensures.tells in record {
      after_after = answers a.m a.chain.now a.report.now a.extent.now a.storage.now a.program.now a.restart_arguments.now (sym c.areas_fit.ensures ∙ c.if-not-areas_fit.false) _ _ c.read.ensures.value c.in-Ok.is _ c.extent_of-x.ensures _ _
          (sym c.on_pack.ensures ∙ c.if-not-on_pack.false) told c.recover_told.ensures;
      recovered_low = recovered_low _ _ _ _ _ _ (rw c.tell-t.ensures.tells.csw c.tell-t.ensures.told_low.csw_low) (c.recover_told.ensures _ told);
    }
