-- `explain_names::read_index` meets its contract. Assumes nothing.
use native.Mathlib.Omega.{arith}
use Rattle.explain_names.proofs.Named.{read_whole, read_count, read_key, read_data}
use Rattle.explain_names.proofs.read_index.Goals as goal

pub returns-then-k-2 : goal.returns-then-k-2
returns-then-k-2 c = record { value = read_whole _ c.if-k.true c.if-k-2.true; upper_bound = omega arith }

pub returns-then-k : goal.returns-then-k
returns-then-k c = record { value = read_count _ c.if-k.true c.if-k-2.false; upper_bound = omega arith }

pub returns-then-k-3 : goal.returns-then-k-3
returns-then-k-3 c = record { value = read_key _ c.if-k.false c.if-k-3.true; upper_bound = omega arith }

pub returns : goal.returns
returns c = record { value = read_data _ c.if-k.false c.if-k-3.false; upper_bound = omega arith }
