-- `status::put_csw` meets its contract: four numbers and a line end, one behind the other. Assumes nothing.
use Rattle.status.proofs.Texts.{csw_put}
use borrow.Author.Rules.{rules}
use Rattle.status.proofs.put_csw.Goals as goal

pub returns : goal.returns
returns c = record {
  puts = csw_put _ c.wide.ensures.value c.wide-2.ensures.value
      c.put_number-unit.ensures.puts c.put_number-channel.ensures.puts c.put_number-count.ensures.puts c.put_number-end.ensures.puts c.put.ensures.puts;
  value = search rules;
}
