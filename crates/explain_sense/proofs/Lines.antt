-- Lines of sense bits and of a row, from the texts that the code puts one behind the other.
--   bit_put                                a bit's byte and bit
--   sense_off, sense_put                   the line of a sense bit
--   asked_off, asked_put                   a bit that a row asks for
--   other_format, whole_count, truncated   the line of a channel truncation
--   lines_put                              all lines of the sense
--   head_put, line_put                     the line of a row
--   row_none, row_put                      that of the row that sense bytes match
use Prim.Native.Nat.{ℕ, ◌/◌, ◌%◌}
use mathlib.Core.Path.{◌≡◌, refl}
use mathlib.Core.Bool.{true, false}
use mathlib.Core.List.{List, [], ◌∷◌}
use lib.ListN.{get_or}
use borrow.Author.Tests.{eq-eqb, ne_eqb}
use Rattle.std.specs.Prelude.{Option, Some, None}
use Rattle.base.specs.Choice.{pick, opt}
use Rattle.base.specs.Bits.{bit_on}
use Rattle.text.specs.Text.{Puts, ascii, digits, number}
use Rattle.text.proofs.Written.{puts_then, puts_none}
use Rattle.words.specs.Each.{each}
use Rattle.recovery.specs.Table.{rows}
use Rattle.error_table.specs.declared.Row.{Row}
use Rattle.error_table.specs.Table.{code_of, row_of, first_row, matched_of, Matches}
use Rattle.explain_names.specs.Names.{sense_name, action_name}
use Rattle.explain_sense.specs.Sense.{bit_in, bit_text, sense_line, truncation_line, sense_lines, row_bit, row_bits, row_head, row_line, row_text}

pub bit_put : {x y₁ y₂ y : List ℕ} {at r₁ r₂ r : ℕ} (i : ℕ)
    → Puts x at (digits 10 1 (i / 8)) y₁ r₁ → Puts y₁ r₁ (ascii ".") y₂ r₂ → Puts y₂ r₂ (digits 10 1 (i % 8)) y r → Puts x at (bit_text i) y r
unfolding bit_text
bit_put i a b c = puts_then (puts_then a b) c

module _ (s : List ℕ) (i : ℕ) where
  pub sense_off : (x : List ℕ) (at : ℕ) → bit_in s i ≡ false → Puts x at (sense_line s i) x at
  unfolding sense_line pick
  sense_off x at h = rw h (puts_none x at)

  pub sense_put : {x y₁ y₂ y₃ y₄ y : List ℕ} {at r₁ r₂ r₃ r₄ r : ℕ} → bit_in s i ≡ true
      → Puts x at (ascii "sense ") y₁ r₁ → Puts y₁ r₁ (bit_text i) y₂ r₂ → Puts y₂ r₂ (ascii ": ") y₃ r₃ → Puts y₃ r₃ (sense_name i) y₄ r₄
      → Puts y₄ r₄ (ascii "\n") y r → Puts x at (sense_line s i) y r
  unfolding sense_line pick
  sense_put h a b c d e = rw h (puts_then (puts_then (puts_then (puts_then a b) c) d) e)

  pub asked_off : (x : List ℕ) (at : ℕ) → bit_in s i ≡ false → Puts x at (row_bit s i) x at
  unfolding row_bit pick
  asked_off x at h = rw h (puts_none x at)

  pub asked_put : {x y₁ y : List ℕ} {at r₁ r : ℕ} → bit_in s i ≡ true → Puts x at (ascii " ") y₁ r₁ → Puts y₁ r₁ (bit_text i) y r → Puts x at (row_bit s i) y r
  unfolding row_bit pick
  asked_put h a b = rw h (puts_then a b)

module _ (s : List ℕ) where
  pub other_format : (x : List ℕ) (at : ℕ) → (get_or s 7 0 ≡ 0x53 → ⊥) → Puts x at (truncation_line s) x at
  unfolding truncation_line pick
  other_format x at h = rw (ne_eqb _ _ h) (puts_none x at)

  module _ (h : get_or s 7 0 ≡ 0x53) where
    pub whole_count : (x : List ℕ) (at : ℕ) → bit_on 7 (get_or s 23 0) ≡ false → Puts x at (truncation_line s) x at
    unfolding truncation_line pick
    whole_count x at b = rw (eq-eqb _ _ h, b) (puts_none x at)

    pub truncated : {x y : List ℕ} {at r : ℕ} → bit_on 7 (get_or s 23 0) ≡ true → Puts x at (ascii "sense 23.7: channel truncation\n") y r → Puts x at (truncation_line s) y r
    unfolding truncation_line pick
    truncated b p = rw (eq-eqb _ _ h, b) p

  pub lines_put : {x y₁ y : List ℕ} {at r₁ r : ℕ} → Puts x at (each 24 0 (sense_line s)) y₁ r₁ → Puts y₁ r₁ (truncation_line s) y r → Puts x at (sense_lines s) y r
  unfolding sense_lines
  lines_put a b = puts_then a b

pub head_put : {x y₁ y₂ y₃ y : List ℕ} {at r₁ r₂ r₃ r : ℕ} (n : ℕ) (asked : List ℕ)
    → Puts x at (ascii "row") y₁ r₁ → Puts y₁ r₁ (number 10 2 n) y₂ r₂ → Puts y₂ r₂ (ascii ":") y₃ r₃ → Puts y₃ r₃ (row_bits asked) y r
    → Puts x at (row_head n asked) y r
unfolding row_head
head_put n asked a b c d = puts_then (puts_then (puts_then a b) c) d

pub line_put : {x y₁ y₂ y₃ y : List ℕ} {at r₁ r₂ r₃ r : ℕ} (n : ℕ) (w : Row)
    → Puts x at (row_head n (w.zero ∷ w.one ∷ w.two ∷ [])) y₁ r₁ → Puts y₁ r₁ (ascii ", action ") y₂ r₂ → Puts y₂ r₂ (action_name (code_of w.action)) y₃ r₃
    → Puts y₃ r₃ (ascii "\n") y r → Puts x at (row_line n (row_of w)) y r
unfolding row_line
line_put n w a b c d = puts_then (puts_then (puts_then a b) c) d

module _ (sense : List ℕ) (m : Option (ℕ × Row)) (h : Matches (get_or sense 0 0) (get_or sense 1 0) (get_or sense 2 0) m) where
  matched : matched_of m ≡ first_row 1 rows sense
  matched = h sense refl refl refl

  pub row_none : (x : List ℕ) (at : ℕ) → m ≡ None → Puts x at (row_text sense) x at
  unfolding row_text opt
  row_none x at e = rw (← matched, e) (puts_none x at)

  pub row_put : {x y : List ℕ} {at r n : ℕ} {w : Row} → m ≡ Some (n, w) → Puts x at (row_line n (row_of w)) y r → Puts x at (row_text sense) y r
  unfolding row_text opt
  row_put e p = rw (← matched, e) p
