-- `explain_ccws::put_argument` meets its contract. Assumes nothing.
use Rattle.text.specs.Text.{ascii}
use Rattle.explain_ccws.proofs.Lines.{argument_before, argument_past, argument_long, argument_put}
use borrow.Author.Rules.{rules}
use Rattle.explain_ccws.proofs.put_argument.Goals as goal

pub returns-then-address-lt8192 : goal.returns-then-address-lt8192
returns-then-address-lt8192 c = record { puts = argument_before _ _ _ _ c.if-address-lt8192.true; upper_bound = search rules }

pub returns-then-restart_arguments-from : goal.returns-then-restart_arguments-from
returns-then-restart_arguments-from c = record { puts = argument_past _ _ c.if-address-lt8192.false _ _ c.if-restart_arguments-from.true; upper_bound = search rules }

pub returns-then-restart_arguments-from-2 : goal.returns-then-restart_arguments-from-2
returns-then-restart_arguments-from-2 c = record { puts = argument_long _ _ c.if-address-lt8192.false c.if-restart_arguments-from.false _ _ c.if-restart_arguments-from-2.true; upper_bound = search rules }

pub returns : goal.returns
unfolding ascii
returns c = record { puts = argument_put _ _ c.if-address-lt8192.false c.if-restart_arguments-from.false c.if-restart_arguments-from-2.false c.put-bytes.ensures.puts c.put_bytes.ensures.puts; upper_bound = search rules }
