-- Restart CCW 1 in its program.
--   fetch_first     it is fetched at its place
--   lead_on         its last TIC leads to a CCW of the chain
--   rest_readable   a read may use it
--   judged_same     it makes incorrect length of the same as the interrupted CCW
use Rattle.std.specs.Prelude.{Option, Some, None, Ok}
use Prim.Native.Nat.{ℕ, ◌+◌, ◌-◌, ◌%◌, ◌≤◌, ◌<◌}
use native.Mathlib.Omega.{arith}
use mathlib.Core.Path.{◌≡◌, refl, ap}
use mathlib.Core.Bool.{Bool, true, false, not}
use mathlib.Core.List.{List}
use lib.Dec.{eqb}
use borrow.Author.Tests.{lt-ltb, le-leb, ne_eqb}
use Rattle.base.specs.Choice.{pick}
use Rattle.base.specs.Bytes.{two, three}
use Rattle.base.proofs.Bytes.{two_back, three_back}
use Rattle.base.proofs.Choice.{split, and_left, and_right}
use Rattle.channel.specs.declared.Ccw.{Ccw}
use Rattle.channel.specs.declared.Location.TheVariants.{Chain, Restart}
use Rattle.channel.specs.Ccw as Ccw
use Rattle.channel.specs.Ccw.{Lent, skips, is_tic, formed, storage_inside, next, fetch_in, fetch, resolve}
use Rattle.channel.specs.Walk.{readable, incorrect_length}
use Rattle.channel.proofs.Readable.{room}
use Rattle.restart.specs.Restart as Program
use Rattle.restart.specs.Restart.{rest_ccw, overflow_program}
use Rattle.overflow_rest.specs.Rest.{rest_place, restart_lent}

-- ---- its place

-- in a program with a TIC behind it or without
pub fetch_first : (c : Ccw) (m : Option ℕ) (last : Option ℕ) → fetch_in (overflow_program m c last) (rest_place m) ≡ Some c
unfolding pick two three rest_place Ccw.fetch_in Ccw.ccw_at Program.ccw_bytes Program.tic_to Program.padded Program.mask_ccw Program.program_ending Program.tic_ccw overflow_program
fetch_first c None None = rw (three_back c.address, two_back c.count)
fetch_first c None (Some to) = rw (three_back c.address, two_back c.count)
fetch_first c (Some b) None = rw (three_back c.address, two_back c.count)
fetch_first c (Some b) (Some to) = rw (three_back c.address, two_back c.count)

-- the last TIC
abbrev tic : ℕ → Ccw
tic to = record { command = 0x08; address = to; flags = 0; count = 0 }

is_tic_lem : (to : ℕ) → is_tic (tic to) ≡ true
unfolding is_tic
is_tic_lem to = refl

module _ (chain arguments restart_arguments : List ℕ) (c : Ccw) where
  abbrev lent : Option ℕ → Option ℕ → Lent
  lent m last = restart_lent chain arguments (overflow_program m c last) restart_arguments

  fetch_tic : (m : Option ℕ) (to : ℕ) → fetch (lent m (Some to)) (Restart (rest_place m + 8)) ≡ Some (tic to)
  unfolding pick two three rest_place Ccw.fetch Ccw.fetch_in Ccw.ccw_at Program.ccw_bytes Program.tic_to Program.padded Program.mask_ccw Program.program_ending Program.tic_ccw overflow_program
  fetch_tic None to = ap (λ n. Some (tic n)) (three_back to)
  fetch_tic (Some b) to = ap (λ n. Some (tic n)) (three_back to)

  pub lead_on : (m : Option ℕ) (to : ℕ) (d : Ccw) → to < 0x1000 → fetch_in chain to ≡ Some d → is_tic d ≡ false
      → resolve (restart_lent chain arguments (overflow_program m c (Some to)) restart_arguments) (Restart (rest_place m)) (next (Restart (rest_place m))) ≡ Ok (Chain to, d)
  unfolding next resolve pick Ccw.follow Ccw.landed Ccw.target Ccw.fetch
  lead_on m to d low there plain = rw (fetch_tic m to, is_tic_lem to, lt-ltb to 0x1000 low, there, plain)

-- ---- what it may read, and what it makes of the end

module _ (size : ℕ) (c : Ccw) (left : ℕ) (may : readable size c ≡ true) (some_left : 0 < left) (fits : left ≤ c.count) where
  rest_formed : formed (rest_ccw c left) ≡ true
  unfolding readable formed rest_ccw
  rest_formed =
      rw (ne_eqb left 0 (λ z. omega arith)) (and_right (not (eqb c.count 0)) (eqb (c.flags % 8) 0) (and_left (formed c) (storage_inside size c) may))

  rest_inside : storage_inside size (rest_ccw c left) ≡ true
  unfolding storage_inside rest_ccw skips pick
  rest_inside =
      split (skips c) (λ h. rw h)
      (λ h. let inside = room size c may h in rw h (le-leb (c.address + (c.count - left) + left) size (omega arith)))

  pub rest_readable : readable size (rest_ccw c left) ≡ true
  unfolding readable
  rest_readable = rw (rest_formed, rest_inside)

pub judged_same : (c : Ccw) (left n : ℕ) (over : Bool) → incorrect_length (rest_ccw c left) n over ≡ incorrect_length c n over
unfolding incorrect_length rest_ccw Ccw.chains_data Ccw.suppresses
judged_same c left n over = refl
