-- `explain_names::put_refusal` meets its contract. Assumes nothing.
use Rattle.text.specs.Text.{ascii}
use Rattle.explain_names.specs.Names.{question_texts}
use Rattle.explain_names.proofs.Named.{questions_short, refusal_put}
use borrow.Author.Rules.{rules}
use Rattle.explain_names.proofs.put_refusal.Goals as goal

pub put_item-end-requires : goal.put_item-end-requires
unfolding question_texts ascii
put_item-end-requires c = record { at_in_bounds = search rules; list_value = questions_short }

pub returns : goal.returns
unfolding question_texts ascii
returns c = record {
  puts = refusal_put _ c.from.ensures c.wide-n.ensures.value c.put_refused-colon.ensures.puts c.put-question.ensures.puts c.put_item-end.ensures.puts
      c.put.ensures.puts;
  upper_bound = search rules;
}
