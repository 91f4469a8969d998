-- `explain_answer::put_action` meets its contract. Assumes nothing.
use Rattle.text.specs.Text.{ascii}
use Rattle.explain_answer.specs.Answer.{action_texts}
use Rattle.explain_answer.proofs.Lines.{actions_short, action_put}
use borrow.Author.Rules.{rules}
use Rattle.explain_answer.proofs.put_action.Goals as goal

pub put_item-end-requires : goal.put_item-end-requires
unfolding action_texts ascii
put_item-end-requires c = record { at_in_bounds = search rules; list_value = actions_short }

pub returns : goal.returns
unfolding action_texts ascii
returns c = record { puts = action_put _ c.put_item-end.ensures.puts c.put.ensures.puts; upper_bound = search rules }
