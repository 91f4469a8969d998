-- A walk that was cut goes on from where it was cut.
--   from          the address of a CCW's next byte
--   Splits        a walk of n bytes, and one of m bytes more, which goes on from where the first ended
--   walk_splits   every walk from a CCW that a read may use, wherever in this CCW it begins
--   Cut           what this tells of a walk that ended with count left
--   cut_there     it does
use Rattle.std.specs.Prelude.{Option, Result, Ok, Err}
use Prim.Native.Nat.{ℕ, zero, suc, ◌+◌, ◌-◌, ◌≤◌, ◌<◌}
use native.Mathlib.Nat.{suc-add, zero-add}
use native.Mathlib.Omega.{arith}
use mathlib.Core.Path.{◌≡◌, refl, ap}
use mathlib.Core.Bool.{Bool, true, false, ◌&&◌}
use mathlib.Core.List.{List, [], ◌∷◌}
use lib.Dec.{eqb}
use lib.ListN.{length}
use Rattle.base.specs.Choice.{pick}
use Rattle.base.proofs.Choice.{split}
use Rattle.channel.specs.declared.Ccw.{Ccw}
use Rattle.channel.specs.declared.Location.{Location}
use Rattle.channel.specs.Ccw.{Lent, chains_data, next, resolve}
use Rattle.channel.specs.Walk.{Walk, walked, checked, behind_place, place_under, readable, chained, walk}
use Rattle.channel.proofs.Stretch.{behind_places}

-- with this count left
abbrev pub from : Ccw → (left : ℕ) → ℕ
from c left = c.address + (c.count - left)

module _ (p : Lent) (size m : ℕ) where
  -- u is the longer walk
  pub data Splits (n : ℕ) (u : Walk) : Walk → Type 0 where
    goes_on : {ps : List (Option ℕ)} {l : Location} {c : Ccw} {left : ℕ}
        → length ps ≡ n → readable size c ≡ true → left ≤ c.count → u ≡ behind_places ps (walk p size m l c left (from c left))
        → Splits n u (walked ps l c left false)
    -- bytes were left over
    overran : {ps : List (Option ℕ)} {l : Location} {c : Ccw} → Splits n u (walked ps l c 0 true)
    stopped : {ps : List (Option ℕ)} {l : Location} → Splits n u (checked ps l)

  behind : (n : ℕ) (q : Option ℕ) (u w : Walk) → Splits n u w → Splits (suc n) (behind_place q u) (behind_place q w)
  unfolding behind_place behind_places
  behind n q u (walked ps l c left false) (goes_on h may fits e) = goes_on {ps = q ∷ ps} (ap suc h) may fits (ap (behind_place q) e)
  behind n q u (walked ps l c zero true) overran = overran
  behind n q u (checked ps l) stopped = stopped
  behind n q u (walked ps l c (suc _) true) x5 = elim x5 [ ]

  choice : (n : ℕ) (b : Bool) {u v w x : Walk} → Splits n u w → Splits n v x → Splits n (pick b u v) (pick b w x)
  unfolding pick
  choice n true h k = h
  choice n false h k = k

  -- of every walk of n bytes
  abbrev SplitsEach : ℕ → Type 0
  SplitsEach n =
      (l : Location) (c : Ccw) (left a : ℕ) → readable size c ≡ true → left ≤ c.count → a ≡ from c left
      → Splits n (walk p size (n + m) l c left a) (walk p size n l c left a)

  chained_splits : (n : ℕ) (f : Result (Location × Ccw) Location) → SplitsEach n → Splits n (chained (walk p size (n + m)) size f) (chained (walk p size n) size f)
  unfolding chained pick
  chained_splits n (Err l) h = stopped
  chained_splits n (Ok (l, c)) h =
      split (readable size c) (λ e. rw e (h l c c.count c.address e (omega arith) (omega arith))) (λ e. rw e stopped)

  pub walk_splits : (n : ℕ) → SplitsEach n
  unfolding walk behind_places
  walk_splits zero l c left a may fits at = rw (zero-add m, at) (goes_on {ps = []} refl may fits refl)
  walk_splits (suc n) l c zero a may fits at = overran
  walk_splits (suc n) l c (suc left) a may fits at =
      rw (suc-add n m)
      (behind n (place_under c a) _ _
      (choice n (eqb left 0 && chains_data c)
      (chained_splits n (resolve p l (next l)) (walk_splits n))
      (walk_splits n l c left (a + 1) may (omega arith) (omega arith))))

  -- where it ended in c, at l, with this count left
  pub record Cut (n : ℕ) (u : Walk) (ps : List (Option ℕ)) (l : Location) (c : Ccw) (left : ℕ) (over : Bool) : Type 0 where
    pub none_over : over ≡ false
    pub counted : length ps ≡ n
    pub may : readable size c ≡ true
    pub fits : left ≤ c.count
    pub on : u ≡ behind_places ps (walk p size m l c left (from c left))

  pub cut_there : (n : ℕ) (u : Walk) (ps : List (Option ℕ)) (l : Location) (c : Ccw) (left : ℕ) (over : Bool) → 0 < left → Splits n u (walked ps l c left over)
      → Cut n u ps l c left over
  cut_there n u ps l c left false h (goes_on long may fits e) = record { none_over = refl; counted = long; may = may; fits = fits; on = e }
  cut_there n u ps l c zero true h overran = absurd (omega arith)
  cut_there n u ps l c (suc _) true h x4 = elim x4 [ ]
