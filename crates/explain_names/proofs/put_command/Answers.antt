-- `explain_names::put_command` meets its contract. Assumes nothing.
use Rattle.text.specs.Text.{ascii}
use Rattle.explain_names.specs.Names.{command_names}
use Rattle.explain_names.proofs.Named.{commands_short, command_put}
use borrow.Author.Rules.{rules}
use Rattle.explain_names.proofs.put_command.Goals as goal

pub put_item-requires : goal.put_item-requires
unfolding command_names ascii
put_item-requires c = record { at_in_bounds = search rules; list_value = commands_short }

pub returns : goal.returns
unfolding command_names ascii
returns c = record { puts = command_put _ c.ccw_index-i.ensures c.put_item.ensures.puts; upper_bound = search rules }
