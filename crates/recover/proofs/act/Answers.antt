-- `recover::act` meets its contract: by the action. Assumes nothing.
use Rattle.recover.proofs.Acts.{acts_one, acts_two, acts_three, acts_four, acts_five, acts_eight, acts_nine, acts_ten, acts_eleven, acts_other}
use Rattle.recover.proofs.act.Goals as goal

pub returns-in-One-clause-acts_by : goal.returns-in-One-clause-acts_by
returns-in-One-clause-acts_by c = rw c.in-One.is (acts_one _ _ _)

pub returns-in-Two-clause-acts_by : goal.returns-in-Two-clause-acts_by
returns-in-Two-clause-acts_by c = rw c.in-Two.is (acts_two _ _ _)

pub returns-in-Three-clause-acts_by : goal.returns-in-Three-clause-acts_by
returns-in-Three-clause-acts_by c = rw c.in-Three.is (acts_three _ _ _ _ c.tried.ensures)

pub returns-in-Four-clause-acts_by : goal.returns-in-Four-clause-acts_by
returns-in-Four-clause-acts_by c = rw c.in-Four.is (acts_four _ _ _ _ c.tried-in-Four.ensures)

pub returns-in-Five-clause-acts_by : goal.returns-in-Five-clause-acts_by
returns-in-Five-clause-acts_by c = rw c.in-Five.is (acts_five _ _ _ _ c.five.ensures.decides)

pub returns-in-Eight-clause-acts_by : goal.returns-in-Eight-clause-acts_by
returns-in-Eight-clause-acts_by c = rw c.in-Eight.is (acts_eight _ _ _ _ c.eight.ensures.acts)

pub returns-in-Nine-clause-acts_by : goal.returns-in-Nine-clause-acts_by
returns-in-Nine-clause-acts_by c = rw c.in-Nine.is (acts_nine _ _ _ _ c.nine.ensures.decides)

pub returns-in-Ten-clause-acts_by : goal.returns-in-Ten-clause-acts_by
returns-in-Ten-clause-acts_by c = rw c.in-Ten.is (acts_ten _ _ _ _ c.ten.ensures.acts)

pub returns-in-Eleven-clause-acts_by : goal.returns-in-Eleven-clause-acts_by
returns-in-Eleven-clause-acts_by c = rw c.in-Eleven.is (acts_eleven _ _ _ _ c.eleven.ensures.decides)

pub returns-in-Six-clause-acts_by : goal.returns-in-Six-clause-acts_by
returns-in-Six-clause-acts_by c = acts_other _ _ _ _ c.in-Six.is
