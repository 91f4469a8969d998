-- `reading_lines::put` meets its contract. Assumes nothing.
use native.Mathlib.Omega.{arith}
use Rattle.reading_lines.proofs.Texts.{made_within, refused_put, over_put}
use borrow.Author.Rules.{rules}
use Rattle.reading_lines.proofs.put.Goals as goal

pub returns-in-Err : goal.returns-in-Err
returns-in-Err c = record { puts = refused_put _ _ c.in-Err.is c.put_refusal.ensures.puts; upper_bound = search rules }

pub put_recoveries-end-requires : goal.put_recoveries-end-requires
put_recoveries-end-requires c =
    let m = made_within 4096 c.in-Ok.is c.requires.made_within in record { made_in_bounds = omega (arith, m, c.requires.room_in_bounds); made_in_bounds_2 = omega (arith, m, c.requires.in_bounds) }

pub put_end-next-requires : goal.put_end-next-requires
put_end-next-requires c =
    omega (arith, made_within 4096 c.in-Ok.is c.requires.made_within, c.requires.room_in_bounds, c.put_recoveries-end.ensures.upper_bound)

pub put_storage-requires : goal.put_storage-requires
put_storage-requires c =
    omega (arith, made_within 4096 c.in-Ok.is c.requires.made_within, c.requires.room_in_bounds, c.put_recoveries-end.ensures.upper_bound, c.put_end-next.ensures.upper_bound)

pub returns-in-Ok : goal.returns-in-Ok
returns-in-Ok c = record {
  puts = over_put _ _ c.in-Ok.is c.put_recoveries-end.ensures.puts c.put_end-next.ensures.puts c.put_storage.ensures.puts;
  upper_bound = omega (
    arith,
    made_within 4096 c.in-Ok.is c.requires.made_within,
    c.put_recoveries-end.ensures.upper_bound,
    c.put_end-next.ensures.upper_bound,
    c.put_storage.ensures.upper_bound,
  );
}
