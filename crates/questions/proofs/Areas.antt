-- What the tests of the chain's length and of the limit tell.
use Prim.Native.Nat.{ℕ, ◌%◌, ◌<◌, ◌≤◌}
use mathlib.Core.Path.{◌≡◌}
use mathlib.Core.Bool.{false}
use lib.Dec.{eqb, leb}
use borrow.Author.Tests.{le-leb, lt-leb}
use Rattle.questions.specs.Areas.{chain_fits, limit_fits}

module _ (n : ℕ) where
  pub limit_none : n < 1 → false ≡ limit_fits n
  unfolding limit_fits
  limit_none h = rw (lt-leb _ _ h)

  pub limit_some : 1 ≤ n → leb n 4096 ≡ limit_fits n
  unfolding limit_fits
  limit_some h = rw (le-leb _ _ h)

  pub chain_short : n < 8 → false ≡ chain_fits n
  unfolding chain_fits
  chain_short h = rw (lt-leb _ _ h)

  pub chain_long : 8 ≤ n → 2048 < n → false ≡ chain_fits n
  unfolding chain_fits
  chain_long h g = rw (le-leb _ _ h, lt-leb _ _ g)

  pub chain_ccws : 8 ≤ n → n ≤ 2048 → eqb (n % 8) 0 ≡ chain_fits n
  unfolding chain_fits
  chain_ccws h g = rw (le-leb _ _ h, le-leb _ _ g)
