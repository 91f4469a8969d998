-- A CCW of the chain leads to CCWs of the chain, and nothing of it depends on a restart program.
--   InChain             a place in the chain
--   FetchedIn, WalkIn   a fetched CCW in the chain, a walk that ends in the chain; program checks are anywhere
--   next_in             the CCW behind is in the chain
--   resolve_in          so is the CCW that comes next
--   walk_in             and the one that a walk ends with
--   beside              the chain with other areas beside it
--   resolve_same, walk_same
--                       the CCW that comes next and a walk see the chain alone
--   with_restart        the lent areas with another restart program and its arguments
--   resolve_local       the CCW that comes next is the same with another restart program
--   walk_local          so is a walk
--   argument_local      so are the bytes of an argument
--   argumentInside-local
--                       and whether it is inside
use Rattle.std.specs.Prelude.{Option, Some, None, Result, Ok, Err}
use Prim.Native.Nat.{ℕ, zero, suc, ◌+◌}
use mathlib.Core.Path.{◌≡◌, refl, ap}
use mathlib.Core.List.{List}
use Rattle.base.proofs.Choice.{both, choose}
use Rattle.channel.specs.declared.Ccw.{Ccw}
use Rattle.channel.specs.declared.Location.{Location}
use Rattle.channel.specs.declared.Location.TheVariants.{Chain, Restart}
use Rattle.channel.specs.Ccw.{Lent, next, fetch_in, fetch, target, landed, follow, resolve, arguments_at, argument_inside, argument}
use Rattle.channel.specs.Walk.{Walk, walked, checked, behind_place, place_under, chained, walk}

abbrev pub InChain : Location → Type 0
InChain (Chain a) = Unit {0}
InChain (Restart a) = ⊥

abbrev pub FetchedIn : Result (Location × Ccw) Location → Type 0
FetchedIn (Ok (l, c)) = InChain l
FetchedIn (Err l) = Unit {0}

abbrev pub WalkIn : Walk → Type 0
WalkIn (walked ps l c left over) = InChain l
WalkIn (checked ps l) = Unit {0}

-- ---- the chain leads to the chain

pub next_in : (l : Location) → InChain l → InChain (next l)
unfolding next
next_in (Chain a) h = tt
next_in (Restart a) h = h

landed_in : (tic l : Location) (o : Option Ccw) → InChain l → FetchedIn (landed tic l o)
unfolding landed
landed_in tic l None h = tt
landed_in tic l (Some c) h = both FetchedIn _ tt h

follow_in : (p : Lent) (last l : Location) (o : Option Ccw) → InChain l → FetchedIn (follow p last l o)
unfolding follow target
follow_in p last (Chain a) None h = tt
follow_in p last (Chain a) (Some c) h = both FetchedIn _ (landed_in (Chain a) (Chain c.address) (fetch p (Chain c.address)) tt) tt
follow_in p last (Restart a) o h = absurd h

pub resolve_in : (p : Lent) (last l : Location) → InChain l → FetchedIn (resolve p last l)
unfolding resolve
resolve_in p last l h = follow_in p last l (fetch p l) h

behind_place_in : (q : Option ℕ) (w : Walk) → WalkIn w → WalkIn (behind_place q w)
unfolding behind_place
behind_place_in q (walked ps l c left over) h = h
behind_place_in q (checked ps l) h = tt

chained_in : (on : Location → Ccw → ℕ → ℕ → Walk) (size : ℕ) (g : Result (Location × Ccw) Location) → FetchedIn g
    → ((l : Location) (c : Ccw) (left a : ℕ) → InChain l → WalkIn (on l c left a)) → WalkIn (chained on size g)
unfolding chained
chained_in on size (Err l) h f = tt
chained_in on size (Ok (l, c)) h f = both WalkIn _ (f l c c.count c.address h) tt

pub walk_in : (p : Lent) (size n : ℕ) (l : Location) (c : Ccw) (left a : ℕ) → InChain l → WalkIn (walk p size n l c left a)
unfolding walk
walk_in p size zero l c left a h = h
walk_in p size (suc n) l c zero a h = h
walk_in p size (suc n) l c (suc left) a h =
    let there = chained_in (walk p size n) size (resolve p l (next l)) (resolve_in p l (next l) (next_in l h)) (walk_in p size n) in
    behind_place_in (place_under c a) _ (both WalkIn _ there (walk_in p size n l c left (a + 1) h))

-- ---- other areas beside the chain

-- the chain with other areas beside it
abbrev pub beside : Lent → List ℕ → List ℕ → List ℕ → Lent
beside p arguments program restart_arguments = record { chain = p.chain; arguments = arguments; program = program; restart_arguments = restart_arguments }

module _ (p : Lent) (arguments program restart_arguments : List ℕ) where
  abbrev q : Lent
  q = beside p arguments program restart_arguments

  follow_same : (last : Location) (a : ℕ) (o : Option Ccw) → follow q last (Chain a) o ≡ follow p last (Chain a) o
  unfolding follow fetch target
  follow_same last a None = refl
  follow_same last a (Some c) = refl

  pub resolve_same : (last l : Location) → InChain l → resolve (beside p arguments program restart_arguments) last l ≡ resolve p last l
  unfolding resolve fetch
  resolve_same last (Chain a) h = follow_same last a (fetch_in p.chain a)
  resolve_same last (Restart a) h = absurd h

  chained_same : (size n : ℕ) (g : Result (Location × Ccw) Location) → FetchedIn g
      → ((l : Location) (c : Ccw) (left a : ℕ) → InChain l → walk q size n l c left a ≡ walk p size n l c left a)
      → chained (walk q size n) size g ≡ chained (walk p size n) size g
  unfolding chained
  chained_same size n (Err l) h f = refl
  chained_same size n (Ok (l, c)) h f = choose _ (f l c c.count c.address h) refl

  pub walk_same : (size n : ℕ) (l : Location) (c : Ccw) (left a : ℕ) → InChain l
      → walk (beside p arguments program restart_arguments) size n l c left a ≡ walk p size n l c left a
  unfolding walk
  walk_same size zero l c left a h = refl
  walk_same size (suc n) l c zero a h = refl
  walk_same size (suc n) l c (suc left) a h =
      let k = next_in l h in
      ap (behind_place (place_under c a)) (choose _
      (rw (resolve_same l (next l) k) (chained_same size n (resolve p l (next l)) (resolve_in p l (next l) k) (walk_same size n)))
      (walk_same size n l c left (a + 1) h))

-- ---- another restart program

abbrev pub with_restart : Lent → List ℕ → List ℕ → Lent
with_restart p program arguments = beside p p.arguments program arguments

module _ (p : Lent) (program arguments : List ℕ) where
  pub resolve_local : (last l : Location) → InChain l → resolve (with_restart p program arguments) last l ≡ resolve p last l
  resolve_local = resolve_same p p.arguments program arguments

  pub walk_local : (size n : ℕ) (l : Location) (c : Ccw) (left a : ℕ) → InChain l
      → walk (with_restart p program arguments) size n l c left a ≡ walk p size n l c left a
  walk_local = walk_same p p.arguments program arguments

  pub argument_local : (l : Location) (c : Ccw) → InChain l → argument (with_restart p program arguments) l c ≡ argument p l c
  unfolding argument arguments_at
  argument_local (Chain a) c h = refl
  argument_local (Restart a) c h = absurd h

  pub argument_inside_local : (l : Location) (c : Ccw) → InChain l → argument_inside (with_restart p program arguments) l c ≡ argument_inside p l c
  unfolding argument_inside arguments_at
  argument_inside_local (Chain a) c h = refl
  argument_inside_local (Restart a) c h = absurd h
