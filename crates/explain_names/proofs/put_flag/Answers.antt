-- `explain_names::put_flag` meets its contract. Assumes nothing.
use mathlib.Core.Path.{sym, ◌∙◌}
use Rattle.text.specs.Text.{ascii}
use Rattle.explain_names.specs.Names.{flag_names}
use Rattle.explain_names.proofs.Named.{flags_short, flag_off, flag_on}
use borrow.Author.Rules.{rules}
use Rattle.explain_names.proofs.put_flag.Goals as goal

pub returns-then-not-bit : goal.returns-then-not-bit
returns-then-not-bit c = record { puts = flag_off _ _ _ _ (sym c.bit.ensures ∙ c.if-not-bit.true); upper_bound = search rules }

pub put_item-requires : goal.put_item-requires
unfolding flag_names ascii
put_item-requires c = record { at_in_bounds = search rules; list_value = flags_short }

pub returns : goal.returns
unfolding flag_names ascii
returns c = record { puts = flag_on _ _ (sym c.bit.ensures ∙ c.if-not-bit.false) c.wide-i.ensures.value c.put-next.ensures.puts c.put_item.ensures.puts; upper_bound = search rules }
