-- `explain_names::put_action_name` meets its contract. Assumes nothing.
use Rattle.text.specs.Text.{ascii}
use Rattle.explain_names.specs.Names.{action_names}
use Rattle.explain_names.proofs.Named.{actions_short, six_a, numbered}
use borrow.Author.Rules.{rules}
use Rattle.explain_names.proofs.put_action_name.Goals as goal

pub returns-then-k-eq22 : goal.returns-then-k-eq22
returns-then-k-eq22 c = record { puts = six_a _ c.if-k-eq22.true c.put.ensures.puts; upper_bound = search rules }

pub put_item-requires : goal.put_item-requires
unfolding action_names ascii
put_item-requires c = record { at_in_bounds = search rules; list_value = actions_short }

pub returns : goal.returns
unfolding action_names ascii
returns c = record { puts = numbered _ c.if-k-eq22.false c.wide-i.ensures.value c.put_item.ensures.puts; upper_bound = search rules }
