-- `faults::sound_fault` meets its contract: in an image that decodes, each answer is a law of `sound_fault`. Assumes nothing.
use native.Mathlib.Omega.{arith}
use mathlib.Core.Path.{sym}
use Rattle.base.proofs.Bytes.{length_part}
use Rattle.pack.specs.Places.{record_from}
use Rattle.faults.proofs.Sound.{fault_zero, fault_trackless, fault_recordless, fault_at_end, fault_inside}
use Rattle.faults.proofs.sound_fault.Goals as goal

pub returns-then-l-eq0 : goal.returns-then-l-eq0
returns-then-l-eq0 c = λ d h. fault_zero _ _ c.if-l-eq0.true

pub returns-in_default : goal.returns-in_default
returns-in_default c =
    λ d h.
    fault_trackless _ _ c.if-l-eq0.false ((rw c.in_default.is at c.find_track.ensures) d h)

pub returns-in_default-find_record : goal.returns-in_default-find_record
returns-in_default-find_record c =
    λ d h.
    let t = (rw c.in-Some.is at c.find_track.ensures) d h in
    let none_there = (rw c.in_default-find_record.is at c.find_record.ensures.record_found) t.1 t.3 in
    fault_recordless _ _ c.if-l-eq0.false t.0 t.2 (rw t.4 at none_there)

pub returns-then-n-lt1 : goal.returns-then-n-lt1
returns-then-n-lt1 c =
    λ d h.
    let t = (rw c.in-Some.is at c.find_track.ensures) d h in
    let there = (rw c.in-Some-find_record.is at c.find_record.ensures.record_found) t.1 t.3 in
    fault_at_end _ _ c.if-l-eq0.false t.0 t.2 _ (rw t.4 at there) c.if-n-lt1.true

pub overflow_sub-result : goal.overflow_sub-result
overflow_sub-result c =
    let b = rw c.in-Some-find_record.is at c.find_record.ensures.bounded in
    omega arith

pub returns : goal.returns
unfolding record_from
returns c =
    λ d h.
    let t = (rw c.in-Some.is at c.find_track.ensures) d h in
    let there = (rw c.in-Some-find_record.is at c.find_record.ensures.record_found) t.1 t.3 in
    let b = rw c.in-Some-find_record.is at c.find_record.ensures.bounded in
    fault_inside _ _ c.if-l-eq0.false t.0 t.2 _ (rw t.4 at there) c.if-n-lt1.false _ (sym (length_part _ _ _ b.inside))
