-- `run_answer::put_cut` meets its contract: its three parts make the whole. Assumes nothing.
use mathlib.Core.List.{[], ◌++◌}
use Rattle.base.specs.Bytes.{two}
use Rattle.channel.specs.Ccw.{address_of}
use Rattle.drive.specs.Step as Step
use Rattle.command.specs.Answer.{cut_of}
use Rattle.channel.specs.Csw.{csw_bytes}
use Rattle.run_answer.specs.RunAnswer.{mask_bytes}
use Rattle.location.proofs.CswBytes.{csw_length}
use Rattle.run_answer.proofs.Whole.{cut_length, last_length, whole}
use Rattle.run_answer.proofs.put_cut.Goals as goal

pub returns : goal.returns
returns c =
    let k = c.args.k in
    let last = rw c.address_of.ensures at c.put_last.ensures in
    whole c.args.answer.now (csw_bytes k.csw) (Step.cut_sense (cut_of k [])) (mask_bytes k.mask ++ two (address_of k.first)) c.requires.answer_len (csw_length k.csw) (cut_length k)
    (last_length k.mask _) _ _ c.put_csw.ensures c.put_cut_sense.ensures _ last
