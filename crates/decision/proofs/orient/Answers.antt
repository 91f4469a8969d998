-- `decision::orient` meets its contract: by the kind. Assumes nothing.
use Rattle.decision.proofs.orient.Goals as goal

pub returns-in-Five : goal.returns-in-Five
returns-in-Five c = rw c.in-Five.is

pub returns-in-FiveA : goal.returns-in-FiveA
returns-in-FiveA c = rw c.in-FiveA.is

pub returns-in-Eight : goal.returns-in-Eight
returns-in-Eight c = rw c.in-Eight.is

pub returns-in-Nine : goal.returns-in-Nine
returns-in-Nine c = rw c.in-Nine.is

pub returns-in-Ten : goal.returns-in-Ten
returns-in-Ten c = rw c.in-Ten.is

pub returns-in-TenA : goal.returns-in-TenA
returns-in-TenA c = rw c.in-TenA.is

pub returns-in-Eleven : goal.returns-in-Eleven
returns-in-Eleven c = rw c.in-Eleven.is
