-- `run_answer::put_end` meets its contract: its three parts make the whole. Assumes nothing.
use mathlib.Core.List.{◌++◌}
use Rattle.base.specs.Bytes.{two}
use Rattle.command.specs.Answer.{sense_of}
use Rattle.channel.specs.Csw.{csw_bytes}
use Rattle.run_answer.specs.RunAnswer.{mask_bytes}
use Rattle.location.proofs.CswBytes.{csw_length}
use Rattle.run_answer.proofs.Whole.{status_length, last_length, whole}
use Rattle.run_answer.proofs.put_end.Goals as goal

pub returns : goal.returns
returns c =
    let a = c.args in
    whole a.answer.now (csw_bytes a.w) (sense_of a.s) (mask_bytes a.mask ++ two 0) c.requires.answer_len (csw_length a.w) (status_length a.s) (last_length a.mask 0) _ _
    c.put_csw.ensures c.put_status.ensures _ c.put_last.ensures
