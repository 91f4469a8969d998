-- The text is that for the input's first 60,001 bytes, and they decide it.
use Rattle.std.proofs.Common.{rules}
use Rattle.standard_input.proofs.Front.{text_for_input}
use Rattle.explain_session.specs.Session.{printed}
use Rattle.explain.proofs.Enough.{printed_enough}
use Rattle.explain.proofs.read_and_print.Goals as goal

pub returns-in-Ok-write_all : goal.returns-in-Ok-write_all
returns-in-Ok-write_all g c =
    text_for_input printed 60001 printed_enough _ _ _ _ _ _ (search rules) c.in-Ok.ensures.front c.answer-length.ensures.out_after c.in-Ok-write_all.ensures.bytes
