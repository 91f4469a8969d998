-- The CCW that an end shows was fetched. So what holds of every CCW that can be fetched holds of it.
--   Shown, WalkShown   of a CCW that comes next, or that a program check shows; of the one that a walk ends with
--   resolve_shown      the CCW that comes next
--   walk_shown         the one that a walk ends with
--   fetched_inside     a CCW that was fetched lies in its area
use Rattle.std.specs.Prelude.{Option, Some, None, Result, Ok, Err}
use Prim.Native.Nat.{ℕ, zero, suc, ◌+◌, ◌%◌, ◌≤◌}
use native.Mathlib.Omega.{arith}
use mathlib.Core.Path.{◌≡◌, refl}
use mathlib.Core.Bool.{◌&&◌}
use mathlib.Core.List.{List}
use lib.Dec.{eqb, leb}
use lib.ListN.{length}
use borrow.Author.Tests.{leb-true}
use Rattle.base.specs.Choice.{pick}
use Rattle.base.proofs.Choice.{both, split, and_left}
use Rattle.channel.specs.declared.Ccw.{Ccw}
use Rattle.channel.specs.declared.Location.{Location}
use Rattle.channel.specs.declared.Location.TheVariants.{Chain, Restart}
use Rattle.channel.specs.Ccw.{Lent, next, fetch_in, fetch, landed, follow, resolve}
use Rattle.channel.specs.Fetch.{Inside}
use Rattle.channel.specs.Walk.{Walk, walked, checked, behind_place, place_under, chained, walk}

module _ (P : Location → Type 0) where
  abbrev pub Shown : Result (Location × Ccw) Location → Type 0
  Shown (Ok (l, c)) = P l
  Shown (Err l) = P l

  abbrev pub WalkShown : Walk → Type 0
  WalkShown (walked ps l c left over) = P l
  WalkShown (checked ps l) = P l

  behind_place_shown : (q : Option ℕ) (w : Walk) → WalkShown w → WalkShown (behind_place q w)
  unfolding behind_place
  behind_place_shown q (walked ps l c left over) h = h
  behind_place_shown q (checked ps l) h = h

  chained_shown : (on : Location → Ccw → ℕ → ℕ → Walk) (size : ℕ) (g : Result (Location × Ccw) Location) → Shown g
      → ((l : Location) (c : Ccw) (left a : ℕ) → P l → WalkShown (on l c left a)) → WalkShown (chained on size g)
  unfolding chained
  chained_shown on size (Err l) h f = h
  chained_shown on size (Ok (l, c)) h f = both WalkShown _ (f l c c.count c.address h) h

  module _ (p : Lent) (held : (l : Location) (c : Ccw) → fetch p l ≡ Some c → P l) where
    landed_shown : (tic l : Location) (o : Option Ccw) → fetch p l ≡ o → P tic → Shown (landed tic l o)
    unfolding landed
    landed_shown tic l None e h = h
    landed_shown tic l (Some c) e h = both Shown _ (held l c e) (held l c e)

    follow_shown : (last l : Location) (o : Option Ccw) → fetch p l ≡ o → P last → Shown (follow p last l o)
    unfolding follow
    follow_shown last l None e h = h
    follow_shown last l (Some c) e h = both Shown _ (landed_shown l _ _ refl (held l c e)) (held l c e)

    pub resolve_shown : (last l : Location) → P last → Shown (resolve p last l)
    unfolding resolve
    resolve_shown last l h = follow_shown last l (fetch p l) refl h

    pub walk_shown : (size n : ℕ) (l : Location) (c : Ccw) (left a : ℕ) → P l → WalkShown (walk p size n l c left a)
    unfolding walk
    walk_shown size zero l c left a h = h
    walk_shown size (suc n) l c zero a h = h
    walk_shown size (suc n) l c (suc left) a h =
        behind_place_shown (place_under c a) _ (both WalkShown _
        (chained_shown (walk p size n) size (resolve p l (next l)) (resolve_shown l (next l) h) (walk_shown size n))
        (walk_shown size n l c left (a + 1) h))

fetch_in_inside : (s : List ℕ) (a : ℕ) (c : Ccw) → fetch_in s a ≡ Some c → a + 8 ≤ length s
unfolding fetch_in pick
fetch_in_inside s a c e =
    split (leb (a + 8) (length s) && eqb (a % 8) 0)
    (λ q. leb-true (a + 8) (length s) (and_left (leb (a + 8) (length s)) (eqb (a % 8) 0) q))
    (λ q. let v : ◌≡◌ {A = Option Ccw} None (Some c) = rw q at e in let z : ◌≡◌ {A = ℕ} 0 1 = cc in absurd (omega arith))

pub fetched_inside : (p : Lent) (l : Location) (c : Ccw) → fetch p l ≡ Some c → Inside p.chain p.program l
unfolding fetch
fetched_inside p (Chain a) c e = fetch_in_inside p.chain a c e
fetched_inside p (Restart a) c e = fetch_in_inside p.program a c e
