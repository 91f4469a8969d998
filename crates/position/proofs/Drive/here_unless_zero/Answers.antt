-- `Drive::here_unless_zero` meets its contract: R0 is at place 0. Assumes nothing.
use mathlib.Core.Logic.{inl}
use Rattle.position.proofs.Places.{here_read}
use Rattle.position.proofs.Drive.here_unless_zero.Goals as goal

pub returns-then-self-eq0 : goal.returns-then-self-eq0
returns-then-self-eq0 c = inl c.if-self-eq0.true

pub returns : goal.returns
returns c =
    let a = c.args in
    here_read a.image.now a.self c.record_at.result c.if-self-eq0.false c.record_at.ensures.value c.record_at.ensures.bounded
