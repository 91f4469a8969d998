-- The walk of restart CCW 1, and the walk from where the interrupted CCW was cut.
--   same_places   the places under both CCWs
--   Leads         one CCW of the chain comes next to both, if they chain data
--   rest_goes     then the one walk goes on as the other
--   stores_on     and storage behind them is the same
use Rattle.std.specs.Prelude.{Option, Some, Ok}
use Prim.Native.Nat.{ℕ, zero, suc, ◌+◌, ◌-◌, ◌≤◌, ◌<◌}
use native.Mathlib.Omega.{arith}
use mathlib.Core.Path.{◌≡◌, refl, ap, ◌∙◌}
use mathlib.Core.Bool.{Bool, true, false}
use mathlib.Core.List.{List, [], ◌∷◌, ◌++◌}
use lib.Dec.{ltb}
use lib.ListN.{length}
use borrow.Author.Tests.{ltb-true, ltb-false}
use Rattle.base.proofs.Choice.{split, both, choose_if, pick_false}
use Rattle.channel.specs.declared.Ccw.{Ccw}
use Rattle.channel.specs.declared.Location.{Location}
use Rattle.channel.specs.declared.Location.TheVariants.{Chain, Restart}
use Rattle.channel.specs.Ccw.{Lent, chains_data, skips, next, resolve}
use Rattle.channel.specs.Store.{put, store}
use Rattle.channel.specs.Walk.{Walk, walked, checked, place_under, chained, walk}
use Rattle.channel.proofs.Stretch.{places_under, behind_places, behind_places_walked, behind_places_checked, walk_short, walk_out, walk_chained}
use Rattle.channel.proofs.InChain.{WalkIn, walk_in, walk_same}
use Rattle.restart.specs.Restart.{rest_ccw}
use Rattle.recovery.specs.Recovery.{only_chain}
use Rattle.recovery_storage.specs.Storage.{places_of}
use Rattle.overflow_rest.specs.Rest.{restart_lent, GoesOnAs, in_these, behind_these, checks}
use Rattle.overflow_rest.proofs.Cut.{from}

-- ---- the places

same_place : (c d : Ccw) (a b : ℕ) → skips c ≡ skips d → (skips d ≡ false → a ≡ b) → place_under c a ≡ place_under d b
unfolding place_under
same_place c d a b h k = rw h (choose_if (skips d) (λ e. refl) (λ e. ap Some (k e)))

same_under : (c d : Ccw) (n a b : ℕ) → skips c ≡ skips d → (skips d ≡ false → a ≡ b) → places_under c a n ≡ places_under d b n
unfolding places_under
same_under c d zero a b h k = refl
same_under c d (suc n) a b h k = rw (same_place c d a b h k, same_under c d n (a + 1) (b + 1) h (λ e. ap (λ m. m + 1) (k e)))

-- under restart CCW 1 from its address on, and under the interrupted CCW with this count left
pub same_places : (c : Ccw) (left n : ℕ) → places_under (rest_ccw c left) (rest_ccw c left).address n ≡ places_under c (from c left) n
unfolding rest_ccw skips
same_places c left n = same_under (rest_ccw c left) c n _ _ refl (λ e. pick_false _ _ e)

chains_same : (c : Ccw) (left : ℕ) → chains_data (rest_ccw c left) ≡ chains_data c
unfolding rest_ccw chains_data
chains_same c left = refl

-- ---- the walks

module _ (before : List (Option ℕ)) (l : Location) (first : Ccw) (k : Location) (cut : Ccw) where
  ends_in_these : (ps : List (Option ℕ)) (left : ℕ) (over : Bool)
      → GoesOnAs before l first k cut (behind_places ps (walked [] l first left over)) (behind_places before (behind_places ps (walked [] k cut left over)))
  ends_in_these ps left over =
      rw (behind_places_walked ps [] l first left over, behind_places_walked ps [] k cut left over, behind_places_walked before (ps ++ []) k cut left over)
      (in_these (ps ++ []) left over)

  ends_behind : (ps : List (Option ℕ)) (w : Walk) → WalkIn w → GoesOnAs before l first k cut (behind_places ps w) (behind_places before (behind_places ps w))
  ends_behind ps (walked qs (Chain a) c left over) h =
      rw (behind_places_walked ps qs (Chain a) c left over, behind_places_walked before (ps ++ qs) (Chain a) c left over) (behind_these (ps ++ qs) a c left over)
  ends_behind ps (walked qs (Restart a) c left over) h = absurd h
  ends_behind ps (checked qs at) h = rw (behind_places_checked ps qs at, behind_places_checked before (ps ++ qs) at) (checks (ps ++ qs) at)

module _ (chain arguments program restart_arguments : List ℕ) (l k : Location) (cut : Ccw) where
  pub record Leads : Type 0 where
    pub to : ℕ
    pub ccw : Ccw
    pub by_tic : resolve (restart_lent chain arguments program restart_arguments) l (next l) ≡ Ok (Chain to, ccw)
    pub by_chain : resolve (only_chain chain) k (next k) ≡ Ok (Chain to, ccw)

  module _ (before : List (Option ℕ)) (size left : ℕ) where
    abbrev p : Lent
    p = restart_lent chain arguments program restart_arguments

    abbrev q : Lent
    q = only_chain chain

    abbrev first : Ccw
    first = rest_ccw cut left

    chained_goes : (ps : List (Option ℕ)) (n a : ℕ) (c : Ccw)
        → GoesOnAs before l first k cut (behind_places ps (chained (walk p size n) size (Ok (Chain a, c))))
        (behind_places before (behind_places ps (chained (walk q size n) size (Ok (Chain a, c)))))
    unfolding only_chain chained
    chained_goes ps n a c =
        rw (walk_same q arguments program restart_arguments size n (Chain a) c c.count c.address tt)
        (ends_behind before l first k cut ps _ (both WalkIn _ (walk_in q size n (Chain a) c c.count c.address tt) tt))

    module _ (n : ℕ) where
      -- the bytes end before the count does
      goes_short : n < left
          → GoesOnAs before l first k cut (walk p size n l first left first.address) (behind_places before (walk q size n k cut left (from cut left)))
      goes_short h =
          let one = walk_short p size n l first left first.address h in
          let other = walk_short q size n k cut left (from cut left) h in
          rw (one, other, same_places cut left n) (ends_in_these before l first k cut _ (left - n) false)

      -- the count runs out, with no CCW chained
      goes_out : left ≤ n → chains_data cut ≡ false
          → GoesOnAs before l first k cut (walk p size n l first left first.address) (behind_places before (walk q size n k cut left (from cut left)))
      goes_out h off =
          let one = walk_out p size n l first left first.address h (chains_same cut left ∙ off) in
          let other = walk_out q size n k cut left (from cut left) h off in
          rw (one, other, same_places cut left left) (ends_in_these before l first k cut _ 0 (ltb left n))

      -- or with one
      goes_chained : 0 < left → left ≤ n → chains_data cut ≡ true → Leads
          → GoesOnAs before l first k cut (walk p size n l first left first.address) (behind_places before (walk q size n k cut left (from cut left)))
      goes_chained z h on v =
          let one = walk_chained p size n l first left first.address z h (chains_same cut left ∙ on) in
          let other = walk_chained q size n k cut left (from cut left) z h on in
          rw (one, other, same_places cut left left, v.by_tic, v.by_chain) (chained_goes _ (n - left) v.to v.ccw)

      pub rest_goes : 0 < left → (chains_data cut ≡ true → Leads)
          → GoesOnAs before l (rest_ccw cut left) k cut
          (walk (restart_lent chain arguments program restart_arguments) size n l (rest_ccw cut left) left (rest_ccw cut left).address)
          (behind_places before (walk (only_chain chain) size n k cut left (from cut left)))
      rest_goes z leads =
          split (ltb n left) (λ short. goes_short (ltb-true n left short))
          (λ long. split (chains_data cut) (λ on. goes_chained z (ltb-false n left long) on (leads on)) (goes_out (ltb-false n left long)))

-- ---- storage

store_both : (ps qs : List (Option ℕ)) (front rest s : List ℕ) → length ps ≡ length front → store (ps ++ qs) (front ++ rest) s ≡ store qs rest (store ps front s)
unfolding store
store_both [] qs [] rest s h = refl
store_both [] qs (b ∷ front) rest s h = absurd (omega arith)
store_both (p ∷ ps) qs [] rest s h = absurd (omega arith)
store_both (p ∷ ps) qs (b ∷ front) rest s h = store_both ps qs front rest (put p b s) (omega arith)

module _ (before : List (Option ℕ)) (l : Location) (first : Ccw) (k : Location) (cut : Ccw) (front rest s : List ℕ) (long : length before ≡ length front) where
  pub stores_on : (w u : Walk) → GoesOnAs before l first k cut w u → store (places_of u) (front ++ rest) s ≡ store (places_of w) rest (store before front s)
  unfolding places_of
  stores_on _ _ (in_these ps left over) = store_both before ps front rest s long
  stores_on _ _ (behind_these ps a c left over) = store_both before ps front rest s long
  stores_on _ _ (checks ps at) = store_both before ps front rest s long
