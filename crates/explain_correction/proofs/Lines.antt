-- Lines of a correction, from the texts that the code puts one behind the other.
--   restart_put, error_put, correction_put    the displacements, and the whole
--   left_same, left_none, left_fewer          how many more may change
--   unchanged, spent, change_put              the line of a byte
--   changes_turn, changes_none                one turn of the loop over storage, and its end
use Prim.Native.Nat.{ℕ, suc, ◌+◌, ◌-◌, ◌<◌, ◌≤◌}
use native.Mathlib.Numerals.{add-one}
use native.Mathlib.Omega.{arith}
use mathlib.Core.Path.{◌≡◌}
use mathlib.Core.List.{List, ◌++◌}
use lib.ListN.{length, get_or, drop, drop_of_length-le}
use lib.Seq.{drop-cons}
use borrow.Author.Tests.{eq-eqb, ne_eqb}
use Rattle.base.specs.Choice.{pick}
use Rattle.base.specs.Bytes.{be16_at, be24_at}
use Rattle.text.specs.Text.{Puts, ascii, number}
use Rattle.text.proofs.Written.{puts_then, puts_none}
use Rattle.explain_correction.specs.Correction.{restart_line, error_line, left_after, change_text, changes_from, change_lines, correction_text}

module _ {x y₁ y₂ y : List ℕ} {at r₁ r₂ r : ℕ} (sense : List ℕ) where
  pub restart_put : {n : ℕ} → n ≡ be24_at sense 15 → Puts x at (ascii "restart displacement") y₁ r₁ → Puts y₁ r₁ (number 10 5 n) y₂ r₂
      → Puts y₂ r₂ (ascii ", from the front of the read to the end of the data area\n") y r → Puts x at (restart_line sense) y r
  unfolding restart_line
  restart_put e a b c = rw (← e) (puts_then (puts_then a b) c)

  pub error_put : {n : ℕ} → n ≡ be16_at sense 18 → Puts x at (ascii "error displacement") y₁ r₁ → Puts y₁ r₁ (number 10 5 n) y₂ r₂
      → Puts y₂ r₂ (ascii ", back from that end\n") y r → Puts x at (error_line sense) y r
  unfolding error_line
  error_put e a b c = rw (← e) (puts_then (puts_then a b) c)

  pub correction_put : (st : List ℕ) → Puts x at (restart_line sense) y₁ r₁ → Puts y₁ r₁ (error_line sense) y₂ r₂ → Puts y₂ r₂ (change_lines st) y r
      → Puts x at (correction_text sense st) y r
  unfolding correction_text
  correction_put st a b c = puts_then (puts_then a b) c

-- ---- how many more may change

module _ (n b : ℕ) where
  pub left_same : b ≡ 0 → n ≡ left_after n b
  unfolding left_after pick
  left_same e = rw (eq-eqb b 0 e)

  pub left_fewer : (b ≡ 0 → ⊥) → n - 1 ≡ left_after n b
  unfolding left_after pick
  left_fewer e = rw (ne_eqb b 0 e)

  pub left_none : (b ≡ 0 → ⊥) → n ≡ 0 → 0 ≡ left_after n b
  left_none e h =
      let q : n - 1 ≡ left_after n b = left_fewer e in
      omega (arith, q)

-- ---- the line of a byte

module _ (n a b : ℕ) where
  pub unchanged : (x : List ℕ) (at : ℕ) → b ≡ 0 → Puts x at (change_text n a b) x at
  unfolding change_text pick
  unchanged x at e = rw (eq-eqb b 0 e) (puts_none x at)

  pub spent : (x : List ℕ) (at : ℕ) → (b ≡ 0 → ⊥) → n ≡ 0 → Puts x at (change_text n a b) x at
  unfolding change_text pick
  spent x at e h = rw (ne_eqb b 0 e, eq-eqb n 0 h) (puts_none x at)

  pub change_put : {x y₁ y₂ y₃ y₄ y : List ℕ} {at r₁ r₂ r₃ r₄ r : ℕ} → (b ≡ 0 → ⊥) → (n ≡ 0 → ⊥)
      → Puts x at (ascii "storage byte") y₁ r₁ → Puts y₁ r₁ (number 16 4 a) y₂ r₂ → Puts y₂ r₂ (ascii ": exclusive-or") y₃ r₃ → Puts y₃ r₃ (number 16 2 b) y₄ r₄
      → Puts y₄ r₄ (ascii "\n") y r → Puts x at (change_text n a b) y r
  unfolding change_text pick
  change_put e h p q s t u = rw (ne_eqb b 0 e, ne_eqb n 0 h) (puts_then (puts_then (puts_then (puts_then p q) s) t) u)

-- ---- the loop

more : (st : List ℕ) (n a b m : ℕ) → a < length st → b ≡ get_or st a 0 → m ≡ left_after n b
    → changes_from n a (drop a st) ≡ change_text n a b ++ changes_from m (a + 1) (drop (a + 1) st)
unfolding changes_from
more st n a b m h e f =
    let k : a + 1 ≡ suc a = add-one a in
    rw (drop-cons st a 0 h, ← e, ← f, k)

module _ (st : List ℕ) (n a : ℕ) {x : List ℕ} {at : ℕ} where
  pub changes_turn : {y : List ℕ} {r b m : ℕ} → a < length st → b ≡ get_or st a 0 → m ≡ left_after n b → Puts x at (change_text n a b) y r
      → (z : List ℕ) (q : ℕ) → Puts y r (changes_from m (a + 1) (drop (a + 1) st)) z q → Puts x at (changes_from n a (drop a st)) z q
  changes_turn {y} {r} {b} {m} h e f p z q o = rw (more st n a b m h e f) (puts_then p o)

  pub changes_none : length st ≤ a → Puts x at (changes_from n a (drop a st)) x at
  unfolding changes_from
  changes_none h = rw (drop_of_length-le st h) (puts_none x at)
