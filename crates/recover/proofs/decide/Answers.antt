-- `recover::decide` meets its contract: the row of the error table, its action, then the extent. Assumes nothing.
use Rattle.recover.proofs.Acts.{no_row, row_chosen}
use Rattle.recover.proofs.decide.Goals as goal

pub returns-in-None-clause-decides_in : goal.returns-in-None-clause-decides_in
returns-in-None-clause-decides_in c = let a = c.args in no_row a.chain.now a.size a.t a.x _ c.choose.ensures c.in-None.is

pub returns-in-Some-clause-decides_in : goal.returns-in-Some-clause-decides_in
returns-in-Some-clause-decides_in c =
    let a = c.args in row_chosen a.chain.now a.size a.t a.x _ c.choose.ensures _ _ _ c.in-Some.is c.act.ensures.acts_by c.bound.ensures.value
