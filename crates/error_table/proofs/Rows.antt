-- The first row that fits, found in order.
--   row_at                          a row of the code's table
--   hit, miss, passed               one turn of the walk, and its end
--   matches                         three bytes stand for all sense bytes that begin with them
--   action_of_first                 the action of the first row that fits is that of the table
--   chosen                          the action, from the row
use Prim.Native.Nat.{ℕ, zero, suc, ◌+◌, ◌<◌, ◌≤◌}
use native.Mathlib.Nat.{not-suc-le-zero, le_of_suc-le-suc}
use native.Mathlib.Numerals.{add-one}
use mathlib.Core.Path.{◌≡◌, refl, ◌∙◌}
use mathlib.Core.Bool.{Bool, true, false}
use mathlib.Core.List.{List, [], ◌∷◌, map}
use lib.ListN.{length, get_or, drop, drop_of_length-le}
use Rattle.std.specs.Prelude.{Option, Some, None, MatchOption}
use Rattle.std.specs.Option.{IsSomeAnd}
use Rattle.base.specs.Choice.{pick, opt}
use Rattle.recovery.specs.Table.{rows, fits, action_for}
use Rattle.recovery.specs.Table as Table
use Rattle.error_table.specs.declared.TheConstants.{ROWS}
use Rattle.error_table.specs.declared.Action.{Action}
use Rattle.error_table.specs.declared.Action.TheVariants.{One}
use Rattle.error_table.specs.declared.Row.{Row}
use Rattle.error_table.specs.Table.{row_of, first_row, matched_of, Matches, Chooses}

-- ---- the code's rows are those of the definition

abbrev pub row_at : ℕ → Row
row_at i = get_or ROWS i (record { zero = 0; one = 0; two = 0; action = One })

of_code : rows ≡ map row_of ROWS
unfolding rows
of_code = refl

drop_next : (rs : List Row) (d : Row) (i : ℕ) → i < length rs → drop i (map row_of rs) ≡ row_of (get_or rs i d) ∷ drop (suc i) (map row_of rs)
drop_next [] d i h = absurd (not-suc-le-zero h)
drop_next (r ∷ rs) d zero h = refl
drop_next (r ∷ rs) d (suc i) h = drop_next rs d i (le_of_suc-le-suc h)

at_row : (i : ℕ) → i < 20 → drop i rows ≡ row_of (row_at i) ∷ drop (i + 1) rows
at_row i h = rw (of_code, add-one) (drop_next ROWS _ i h)

-- ---- the walk

module _ (i : ℕ) (sense : List ℕ) where
  pub hit : i < 20 → fits sense (row_of (row_at i)) ≡ true → Some (i + 1, row_of (row_at i)) ≡ first_row (i + 1) (drop i rows) sense
  unfolding first_row pick
  hit h t = rw (at_row i h, t)

  pub miss : i < 20 → fits sense (row_of (row_at i)) ≡ false → first_row (i + 1 + 1) (drop (i + 1) rows) sense ≡ first_row (i + 1) (drop i rows) sense
  unfolding first_row pick
  miss h t = rw (at_row i h, t)

  pub passed : 20 ≤ i → None ≡ first_row (i + 1) (drop i rows) sense
  unfolding rows first_row
  passed h = rw (drop_of_length-le rows h)

module _ (s0 s1 s2 : ℕ) (sense : List ℕ) (e0 : get_or sense 0 0 ≡ s0) (e1 : get_or sense 1 0 ≡ s1) (e2 : get_or sense 2 0 ≡ s2) where
  same : (n : ℕ) (rs : List Table.Row) → first_row n rs (s0 ∷ s1 ∷ s2 ∷ []) ≡ first_row n rs sense
  unfolding first_row fits
  same n [] = refl
  same n (r ∷ rs) = rw (same (n + 1) rs, e0, e1, e2)

pub matches : (s0 s1 s2 : ℕ) (m : Option (ℕ × Row)) → matched_of m ≡ first_row 1 rows (s0 ∷ s1 ∷ s2 ∷ []) → Matches s0 s1 s2 m
matches s0 s1 s2 m h sense e0 e1 e2 = h ∙ same s0 s1 s2 sense e0 e1 e2 1 rows

-- ---- the action

pub action_of_first : (n : ℕ) (rs : List Table.Row) (sense : List ℕ) → opt (first_row n rs sense) None (λ x. Some x.1.action) ≡ action_for rs sense
unfolding first_row action_for pick opt
action_of_first n [] sense = refl
action_of_first n (r ∷ rs) sense = by (fits sense r) refl (action_of_first (n + 1) rs sense)
  where
    by : (b : Bool) → fits sense r ≡ b → opt (first_row (n + 1) rs sense) None (λ x. Some x.1.action) ≡ action_for rs sense
        → opt (first_row n (r ∷ rs) sense) None (λ x. Some x.1.action) ≡ action_for (r ∷ rs) sense
    by true e ih = rw e
    by false e ih = rw e ih

module _ (s0 s1 s2 : ℕ) where
  pub chosen : (m : Option (ℕ × Row)) (a : Option Action) → Matches s0 s1 s2 m → MatchOption m (a ≡ None) (λ x. IsSomeAnd a (λ y. y ≡ x.1.action))
      → Chooses s0 s1 s2 a
  unfolding opt
  chosen None a h e sense e0 e1 e2 =
      let w : None ≡ first_row 1 rows sense = h sense e0 e1 e2 in
      rw (e, ← (action_of_first 1 rows sense), ← w)
  chosen (Some x) (Some a) h e sense e0 e1 e2 =
      let w : Some (x.0, row_of x.1) ≡ first_row 1 rows sense = h sense e0 e1 e2 in
      rw (e, ← (action_of_first 1 rows sense), ← w)
  chosen (Some x) None h e sense e0 e1 e2 = absurd e
