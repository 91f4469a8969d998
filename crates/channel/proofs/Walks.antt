-- What a walk and a fetched CCW are. A walk knows storage by its size alone, and no byte of a read: it is told how many there are.
--   Short            a walk with at most n places
--   walk_places      a walk has at most as many places as the read has bytes, also where a program check stops it
--   Resolved         a CCW that was fetched at its place and is no TIC, or a program check
--   resolve_is       the next CCW is such a one
--   resolve_got      the same as equations
use Rattle.std.specs.Prelude.{Option, Some, None, Result, Ok, Err}
use Prim.Native.Nat.{ℕ, zero, suc, ◌+◌, ◌≤◌}
use mathlib.Core.Path.{◌≡◌, refl, ap}
use mathlib.Core.Bool.{Bool, false}
use mathlib.Core.List.{List, [], ◌∷◌}
use lib.ListN.{length}
use native.Mathlib.Omega.{arith}
use Rattle.base.proofs.Choice.{both, both_if}
use Rattle.channel.specs.declared.Ccw.{Ccw}
use Rattle.channel.specs.declared.Location.{Location}
use Rattle.channel.specs.Ccw.{Lent, is_tic, next, fetch, landed, follow, resolve}
use Rattle.channel.specs.Walk.{Walk, walked, checked, behind_place, place_under, chained, walk}

-- ---- at most as many places as bytes

pub data Short (n : ℕ) : Walk → Type 0 where
  short_walked : {ps : List (Option ℕ)} {l : Location} {c : Ccw} {left : ℕ} {over : Bool} → length ps ≤ n → Short n (walked ps l c left over)
  short_checked : {ps : List (Option ℕ)} {l : Location} → length ps ≤ n → Short n (checked ps l)

behind_place_short : (n : ℕ) (q : Option ℕ) (w : Walk) → Short n w → Short (suc n) (behind_place q w)
unfolding behind_place
behind_place_short n q (walked ps l c left over) (short_walked h) = short_walked {ps = q ∷ ps} (omega arith)
behind_place_short n q (checked ps l) (short_checked h) = short_checked {ps = q ∷ ps} (omega arith)

none_short : (n : ℕ) (l : Location) → Short n (checked [] l)
none_short n l = short_checked {ps = []} (omega arith)

chained_short : (n : ℕ) (on : Location → Ccw → ℕ → ℕ → Walk) (size : ℕ) (g : Result (Location × Ccw) Location)
    → ((l : Location) (c : Ccw) (left a : ℕ) → Short n (on l c left a)) → Short n (chained on size g)
unfolding chained
chained_short n on size (Err l) f = none_short n l
chained_short n on size (Ok (l, c)) f = both (Short n) _ (f l c c.count c.address) (none_short n l)

pub walk_places : (p : Lent) (size n : ℕ) (l : Location) (c : Ccw) (left a : ℕ) → Short n (walk p size n l c left a)
unfolding walk
walk_places p size zero l c left a = short_walked {ps = []} (omega arith)
walk_places p size (suc n) l c zero a = short_walked {ps = []} (omega arith)
walk_places p size (suc n) l c (suc left) a =
    behind_place_short n (place_under c a) _
    (both (Short n) _ (chained_short n (walk p size n) size (resolve p l (next l)) (walk_places p size n)) (walk_places p size n l c left (a + 1)))

-- ---- the next CCW

pub data Resolved (p : Lent) : Result (Location × Ccw) Location → Type 0 where
  resolved_got : {l : Location} {c : Ccw} → fetch p l ≡ Some c → is_tic c ≡ false → Resolved p (Ok (l, c))
  resolved_broken : {l : Location} → Resolved p (Err l)

landed_is : (p : Lent) (tic l : Location) (o : Option Ccw) → fetch p l ≡ o → Resolved p (landed tic l o)
unfolding landed
landed_is p tic l None e = resolved_broken
landed_is p tic l (Some c) e = both_if (Resolved p) _ (λ h. resolved_broken) (λ h. resolved_got e h)

follow_is : (p : Lent) (last l : Location) (o : Option Ccw) → fetch p l ≡ o → Resolved p (follow p last l o)
unfolding follow
follow_is p last l None e = resolved_broken
follow_is p last l (Some c) e = both_if (Resolved p) _ (λ h. landed_is p _ _ _ refl) (λ h. resolved_got e h)

pub resolve_is : (p : Lent) (last l : Location) → Resolved p (resolve p last l)
unfolding resolve
resolve_is p last l = follow_is p last l (fetch p l) refl

got_is : (p : Lent) (g : Result (Location × Ccw) Location) (k : Location) (c : Ccw) → Resolved p g → g ≡ Ok (k, c) → (fetch p k ≡ Some c) × (is_tic c ≡ false)
got_is p (Ok (l, b)) k c (resolved_got f u) e =
    let w : ◌≡◌ {A = Location × Ccw} (l, b) (k, c) = cc in rw (← ap (λ x. x.0) w, ← ap (λ x. x.1) w) (f, u)
got_is p (Err l) k c h e = let z : ◌≡◌ {A = ℕ} 0 1 = cc in absurd (omega arith)

pub resolve_got : (p : Lent) (last l k : Location) (c : Ccw) → resolve p last l ≡ Ok (k, c) → (fetch p k ≡ Some c) × (is_tic c ≡ false)
resolve_got p last l k c e = got_is p _ k c (resolve_is p last l) e
