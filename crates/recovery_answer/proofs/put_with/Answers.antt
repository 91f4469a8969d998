-- `recovery_answer::put_with` meets its contract: two bytes, and the CSW behind them. Assumes nothing.
use native.Mathlib.Omega.{arith}
use mathlib.Core.Path.{refl, ◌∙◌}
use lib.ListN.{length-take, length-drop}
use Rattle.channel.specs.Csw.{csw_bytes}
use Rattle.recovery_answer.proofs.Bytes.{two_kept, put_behind, put_behind_kept}
use Rattle.location.proofs.CswBytes.{csw_length}
use Rattle.recovery_answer.proofs.put_with.Goals as goal

pub slice_bounds-put_csw-count : goal.slice_bounds-put_csw-count
slice_bounds-put_csw-count c = let n = (two_kept c.args.answer.now c.args.what c.args.action ∙ c.requires.answer_len) in omega arith

pub slice_bounds-put_csw-start : goal.slice_bounds-put_csw-start
slice_bounds-put_csw-start c = let n = (two_kept c.args.answer.now c.args.what c.args.action ∙ c.requires.answer_len) in omega arith

pub put_csw-requires : goal.put_csw-requires
put_csw-requires c = let n = (two_kept c.args.answer.now c.args.what c.args.action ∙ c.requires.answer_len) in record { in_bounds = simp (length-take, length-drop) (omega arith); csw_low = c.requires.csw_low }

pub shape_of-answer : goal.shape_of-answer
shape_of-answer c =
    let a = c.args in
    put_behind_kept a.answer.now a.what a.action (csw_bytes a.w) _ c.requires.answer_len (csw_length a.w) c.put_csw.ensures

pub returns : goal.returns
returns c =
    let a = c.args in record { value = refl; answer_after = put_behind a.answer.now a.what a.action (csw_bytes a.w) _ c.requires.answer_len c.put_csw.ensures }
