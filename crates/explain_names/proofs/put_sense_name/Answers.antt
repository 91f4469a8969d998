-- `explain_names::put_sense_name` meets its contract. Assumes nothing.
use Rattle.text.specs.Text.{ascii}
use Rattle.explain_names.specs.Names.{sense_names, sense_name}
use Rattle.explain_names.proofs.Named.{senses_short}
use borrow.Author.Rules.{rules}
use Rattle.explain_names.proofs.put_sense_name.Goals as goal

pub put_item-requires : goal.put_item-requires
unfolding sense_names ascii
put_item-requires c = record { at_in_bounds = search rules; list_value = senses_short }

pub returns : goal.returns
unfolding sense_name sense_names ascii
returns c = record { puts = c.put_item.ensures.puts; upper_bound = search rules }
