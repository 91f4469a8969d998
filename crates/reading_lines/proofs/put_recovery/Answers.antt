-- `reading_lines::put_recovery` meets its contract: the name, the action, and the record. Assumes nothing.
use Rattle.reading_lines.proofs.Texts.{recovery_put}
use borrow.Author.Rules.{rules}
use Rattle.reading_lines.proofs.put_recovery.Goals as goal

pub returns : goal.returns
returns c = record {
  puts = recovery_put c.args.list.now _ c.put-name.ensures.puts c.put_action-record.ensures.puts
      c.be16.ensures.value c.be16-2.ensures.value c.byte.ensures.value c.put_record.ensures.puts;
  upper_bound = search rules;
}
