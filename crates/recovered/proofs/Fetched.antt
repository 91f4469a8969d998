-- A CCW of the chain, as recovery fetches it.
use Rattle.std.specs.Prelude.{Some, None}
use Prim.Native.Nat.{ℕ}
use mathlib.Core.Path.{◌≡◌, refl}
use mathlib.Core.List.{List, []}
use Rattle.channel.specs.declared.Ccw.{Ccw}
use Rattle.channel.specs.declared.Location.TheVariants.{Chain}
use Rattle.channel.specs.Ccw.{fetch_in, fetch}
use Rattle.channel.specs.Fetch.{Fetches}
use Rattle.recovery.specs.Recovery.{only_chain}

pub ccw_there : (chain : List ℕ) (first : ℕ) (c : Ccw) → Fetches chain [] (Chain first) (Some c) → Some c ≡ fetch_in chain first
unfolding fetch only_chain
ccw_there chain first c f = f (only_chain chain) refl refl

pub ccw_gone : (chain : List ℕ) (first : ℕ) → Fetches chain [] (Chain first) None → None ≡ fetch_in chain first
unfolding fetch only_chain
ccw_gone chain first f = f (only_chain chain) refl refl
