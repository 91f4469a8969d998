-- Lines of CCWs, from the texts that the code puts one behind the other.
--   head_put, operands_put, ccw_put                   the line of a CCW
--   argument-before, -past, -long, argument-put       the argument that it names: none, or one
--   slot_none, slot_put                               the line of a place of an area
--   used_here, used_turn, used_all                    how many CCWs of a restart program are used
use Rattle.std.specs.Prelude.{Option, Some, None}
use Prim.Native.Nat.{ℕ, zero, suc, ◌+◌, ◌-◌, ◌*◌, ◌<◌, ◌≤◌}
use native.Mathlib.Nat.{not-suc-le-zero, add-sub_cancel_left}
use native.Mathlib.Numerals.{sub-one}
use native.Mathlib.Omega.{arith}
use mathlib.Core.Path.{◌≡◌, refl}
use mathlib.Core.Bool.{true, false}
use mathlib.Core.List.{List, [], ◌∷◌}
use lib.Dec.{eqb}
use lib.ListN.{length, get_or, take, drop}
use borrow.Author.Tests.{eq-eqb, ne_eqb, lt-ltb, le-ltb, le-leb, lt-leb}
use Rattle.base.specs.Choice.{pick, opt}
use Rattle.text.specs.Text.{Puts, ascii, number, bytes_text}
use Rattle.text.proofs.Written.{puts_then, puts_none}
use Rattle.channel.specs.declared.Ccw.{Ccw}
use Rattle.channel.specs.declared.Location.TheVariants.{Chain}
use Rattle.channel.specs.Ccw.{fetch, fetch_in}
use Rattle.channel.specs.Fetch.{Fetches}
use Rattle.explain_names.specs.Names.{command_name, flags_text}
use Rattle.explain_ccws.specs.Ccws.{head_text, operand_text, names_argument, argument_text, ccw_line, slot_line, used_from}

pub head_put : {x y₁ y₂ y₃ y₄ y : List ℕ} {at r₁ r₂ r₃ r₄ r code : ℕ} (label : List ℕ) (place command : ℕ) → code ≡ command
    → Puts x at label y₁ r₁ → Puts y₁ r₁ (number 16 4 place) y₂ r₂ → Puts y₂ r₂ (0x3a ∷ []) y₃ r₃ → Puts y₃ r₃ (number 16 2 code) y₄ r₄
    → Puts y₄ r₄ (0x20 ∷ []) y r → Puts x at (head_text label place command) y r
unfolding head_text ascii
head_put label place command h a b c d e = rw (← h) (puts_then (puts_then (puts_then (puts_then a b) c) d) e)

pub operands_put : {x y₁ y₂ y₃ y₄ y : List ℕ} {at r₁ r₂ r₃ r₄ r : ℕ} (w : Ccw)
    → Puts x at (ascii ", address") y₁ r₁ → Puts y₁ r₁ (number 16 6 w.address) y₂ r₂ → Puts y₂ r₂ (ascii ", count") y₃ r₃
    → Puts y₃ r₃ (number 16 4 w.count) y₄ r₄ → Puts y₄ r₄ (flags_text w.flags) y r → Puts x at (operand_text w) y r
unfolding operand_text
operands_put w a b c d e = puts_then (puts_then (puts_then (puts_then a b) c) d) e

pub ccw_put : {x y₁ y₂ y₃ y₄ y : List ℕ} {at r₁ r₂ r₃ r₄ r : ℕ} (label : List ℕ) (place : ℕ) (restart_arguments : List ℕ) (w : Ccw)
    → Puts x at (head_text label place w.command) y₁ r₁ → Puts y₁ r₁ (command_name w) y₂ r₂ → Puts y₂ r₂ (operand_text w) y₃ r₃
    → Puts y₃ r₃ (argument_text restart_arguments w) y₄ r₄ → Puts y₄ r₄ (ascii "\n") y r → Puts x at (ccw_line label place restart_arguments w) y r
unfolding ccw_line
ccw_put label place restart_arguments w a b c d e = puts_then (puts_then (puts_then (puts_then a b) c) d) e

-- ---- the argument that it names

module _ (restart_arguments : List ℕ) (w : Ccw) where
  unnamed : (x : List ℕ) (at : ℕ) → names_argument restart_arguments w ≡ false → Puts x at (argument_text restart_arguments w) x at
  unfolding argument_text pick
  unnamed x at h = rw h (puts_none x at)

  pub argument_before : (x : List ℕ) (at : ℕ) → w.address < 0x2000 → Puts x at (argument_text restart_arguments w) x at
  unfolding names_argument
  argument_before x at h = unnamed x at (rw (lt-leb 0x2000 w.address h))

  module _ (h : 0x2000 ≤ w.address) where
    pub argument_past : (x : List ℕ) (at : ℕ) → length restart_arguments ≤ w.address - 0x2000 → Puts x at (argument_text restart_arguments w) x at
    unfolding names_argument
    argument_past x at k = unnamed x at (rw (le-leb 0x2000 w.address h, le-ltb _ _ k))

    module _ (k : w.address - 0x2000 < length restart_arguments) where
      pub argument_long : (x : List ℕ) (at : ℕ) → length restart_arguments - (w.address - 0x2000) < w.count → Puts x at (argument_text restart_arguments w) x at
      unfolding names_argument
      argument_long x at l = unnamed x at (rw (le-leb 0x2000 w.address h, lt-ltb _ _ k, lt-leb (w.address - 0x2000 + w.count) (length restart_arguments) (omega arith)))

      named : w.count ≤ length restart_arguments - (w.address - 0x2000) → names_argument restart_arguments w ≡ true
      unfolding names_argument
      named l = rw (le-leb 0x2000 w.address h, lt-ltb _ _ k, le-leb (w.address - 0x2000 + w.count) (length restart_arguments) (omega arith))

      pub argument_put : {x y₁ y : List ℕ} {at r₁ r : ℕ} → w.count ≤ length restart_arguments - (w.address - 0x2000) → Puts x at (ascii ", argument ") y₁ r₁
          → Puts y₁ r₁ (bytes_text (take (w.address - 0x2000 + w.count - (w.address - 0x2000)) (drop (w.address - 0x2000) restart_arguments))) y r
          → Puts x at (argument_text restart_arguments w) y r
      unfolding argument_text pick
      argument_put l a b = rw (named l) (puts_then a (rw add-sub_cancel_left at b))

-- ---- a place of an area

module _ (label : List ℕ) (origin : ℕ) (s restart_arguments : List ℕ) (i : ℕ) {t : List ℕ} (o : Option Ccw) (f : Fetches s t (Chain (i * 8)) o) where
  fetched : o ≡ fetch_in s (i * 8)
  unfolding fetch
  fetched = f (record { chain = s; arguments = []; program = t; restart_arguments = [] }) refl refl

  pub slot_none : (x : List ℕ) (at : ℕ) → o ≡ None → Puts x at (slot_line label origin s restart_arguments i) x at
  unfolding slot_line opt
  slot_none x at e = rw (← fetched, e) (puts_none x at)

  pub slot_put : {x y : List ℕ} {at r : ℕ} {w : Ccw} → o ≡ Some w → Puts x at (ccw_line label (origin + i * 8) restart_arguments w) y r
      → Puts x at (slot_line label origin s restart_arguments i) y r
  unfolding slot_line opt
  slot_put e p = rw (← fetched, e) p

-- ---- how many are used

first : (n : ℕ) (p : List ℕ) (i : ℕ) → 0 < n → used_from n p i ≡ pick (eqb (get_or p (i * 8) 0) 0) i (used_from (n - 1) p (i + 1))
unfolding used_from
first zero p i h = absurd (not-suc-le-zero h)
first (suc n) p i h = rw sub-one

module _ (p : List ℕ) (i : ℕ) where
  pub used_here : i < 8 → get_or p (i * 8) 0 ≡ 0 → i ≡ used_from (8 - i) p i
  unfolding pick
  used_here h e = rw (first (8 - i) p i (omega arith), eq-eqb _ _ e)

  pub used_turn : i < 8 → (get_or p (i * 8) 0 ≡ 0 → ⊥) → used_from (8 - (i + 1)) p (i + 1) ≡ used_from (8 - i) p i
  unfolding pick
  used_turn h e =
      let n : 8 - (i + 1) ≡ 8 - i - 1 = omega arith in
      rw (first (8 - i) p i (omega arith), ne_eqb _ _ e, n)

  pub used_all : 8 ≤ i → i ≡ used_from (8 - i) p i
  unfolding used_from
  used_all h =
      let e : 8 - i ≡ 0 = omega arith in
      rw e
