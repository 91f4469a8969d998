-- `decision::put_overflow` meets its contract: the program, then its arguments. Assumes nothing.
use Rattle.decision.proofs.put_overflow.Goals as goal

pub overflow_program-requires : goal.overflow_program-requires
overflow_program-requires c = record { program_len = c.requires.program_len; in_bytes = c.requires.overflow_low.first_low; tic_low = c.requires.overflow_low.tic_low }

pub returns : goal.returns
returns c = record { program_after = c.overflow_program.ensures; restart_arguments_after = c.begin_arguments.ensures }
