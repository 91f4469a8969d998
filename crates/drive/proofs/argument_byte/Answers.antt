-- `drive::argument_byte` meets its contract: the byte's place is inside, and it is the argument's. Assumes nothing.
use native.Mathlib.Omega.{arith}
use Rattle.drive.proofs.Arguments.{chain_ends, restart_ends, chain_byte, restart_byte}
use Rattle.drive.proofs.argument_byte.Goals as goal

pub byte-requires : goal.byte-requires
byte-requires c =
    let x = chain_ends _ _ _ _ (rw c.in-Chain.is at c.requires.argument_in) in
    omega arith

pub overflow_sub-c : goal.overflow_sub-c
overflow_sub-c c =
    let x = restart_ends _ _ _ _ (rw c.in-Restart.is at c.requires.argument_in) in
    omega arith

pub byte-requires-in-Restart : goal.byte-requires-in-Restart
byte-requires-in-Restart c =
    let x = restart_ends _ _ _ _ (rw c.in-Restart.is at c.requires.argument_in) in
    omega arith

pub returns-in-Chain : goal.returns-in-Chain
returns-in-Chain c = record { upper_bound = c.byte.ensures.upper_bound; argument_byte = λ p e f. rw c.in-Chain.is (chain_byte p _ _ _ c.requires.k_lt_count e c.byte.ensures.value) }

pub returns-in-Restart : goal.returns-in-Restart
returns-in-Restart c = record { upper_bound = c.byte-in-Restart.ensures.upper_bound; argument_byte = λ p e f. rw c.in-Restart.is (restart_byte p _ _ _ c.requires.k_lt_count f c.byte-in-Restart.ensures.value) }
