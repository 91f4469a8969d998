-- Texts put into an area.
--   length_written            an area keeps its length
--   written_none              no bytes
--   written_first             the first byte stored, then the others behind it
--   written_last              the last byte stored, then those before it
--   written_more              bytes, and further ones behind them
--   front_written             the bytes of a text that fits, read back from the front
--   length_digits             how many digits there are
--   digits_more               the last digit
--   put_turn, digits_turn     one turn of a loop that puts bytes, or digits
--   put_end, digits_end       its end
--   same_length_of_puts       an area keeps its length where a text is put
--   within                    the place behind a text lies in the area
--   puts_then, puts_none      a text behind a text; no text
--   puts_digits, puts_number  digits, and a space in front of them
--   first_kept                an area keeps its length where a byte is stored and a text is put
--   bytes_turn, bytes_none    bytes in digits: one turn of the loop that puts them, and its end
use Prim.Native.Nat.{ℕ, zero, suc, ◌+◌, ◌-◌, ◌/◌, ◌%◌, ◌<◌, ◌≤◌}
use native.Mathlib.Nat.{add-zero, zero-add, suc-add, not-suc-le-zero, le_of_suc-le-suc}
use native.Mathlib.Numerals.{add-one, sub-one}
use native.Mathlib.Omega.{arith}
use mathlib.Core.Path.{◌≡◌, refl, ap, sym, ◌∙◌}
use mathlib.Core.List.{List, [], ◌∷◌, ◌++◌}
use lib.ListN.{length, take, drop, get_or, set, length-append, length-set, drop_of_length-le}
use lib.Seq.{drop-cons}
use Rattle.text.specs.Text.{written, Puts, character, digits, number, bytes_text}

pub length_written : (x : List ℕ) (at : ℕ) (s : List ℕ) → length (written x at s) ≡ length x
unfolding written
length_written [] at s = refl
length_written (b ∷ x) (suc at) s = ap suc (length_written x at s)
length_written (b ∷ x) zero [] = refl
length_written (b ∷ x) zero (d ∷ s) = ap suc (length_written x zero s)

pub written_none : (x : List ℕ) (at : ℕ) → written x at [] ≡ x
unfolding written
written_none [] at = refl
written_none (b ∷ x) zero = refl
written_none (b ∷ x) (suc at) = ap (λ (l : List ℕ). b ∷ l) (written_none x at)

first_suc : (x : List ℕ) (at b : ℕ) (s : List ℕ) → written (set x at b) (suc at) s ≡ written x at (b ∷ s)
unfolding written
first_suc [] at b s = refl
first_suc (y ∷ x) zero b s = refl
first_suc (y ∷ x) (suc at) b s = ap (λ (l : List ℕ). y ∷ l) (first_suc x at b s)

pub written_first : (x : List ℕ) (at b : ℕ) (s : List ℕ) → written (set x at b) (at + 1) s ≡ written x at (b ∷ s)
written_first x at b s = rw add-one (first_suc x at b s)

pub written_last : (x : List ℕ) (at b : ℕ) (s : List ℕ) → written (set x (at + length s) b) at s ≡ written x at (s ++ (b ∷ []))
unfolding written
written_last [] at b s = refl
written_last (y ∷ x) (suc at) b s = rw (suc-add at (length s)) (ap (λ (l : List ℕ). y ∷ l) (written_last x at b s))
written_last (y ∷ x) zero b [] = rw (zero-add 0) (ap (λ (l : List ℕ). b ∷ l) (sym (written_none x zero)))
written_last (y ∷ x) zero b (d ∷ s) =
    rw (zero-add (suc (length s))) (ap (λ (l : List ℕ). d ∷ l) (rw (zero-add (length s)) at (written_last x zero b s)))

pub written_more : (x : List ℕ) (at : ℕ) (s t : List ℕ) → written (written x at s) (at + length s) t ≡ written x at (s ++ t)
unfolding written
written_more [] at s t = refl
written_more (y ∷ x) (suc at) s t = rw (suc-add at (length s)) (ap (λ (l : List ℕ). y ∷ l) (written_more x at s t))
written_more (y ∷ x) zero [] t = rw (zero-add 0)
written_more (y ∷ x) zero (d ∷ s) t =
    rw (zero-add (suc (length s))) (ap (λ (l : List ℕ). d ∷ l) (rw (zero-add (length s)) at (written_more x zero s t)))

pub front_written : (x s : List ℕ) → length s ≤ length x → take (length s) (written x 0 s) ≡ s
unfolding written
front_written x [] h = refl
front_written [] (d ∷ s) h = absurd (not-suc-le-zero h)
front_written (y ∷ x) (d ∷ s) h = ap (λ (l : List ℕ). d ∷ l) (front_written x s (le_of_suc-le-suc h))

pub length_digits : (base k n : ℕ) → length (digits base k n) ≡ k
unfolding digits
length_digits base zero n = refl
length_digits base (suc k) n =
    length-append (digits base k (n / base)) (character (n % base) ∷ []) ∙ rw (length_digits base k (n / base), add-one)

pub digits_more : (base k n : ℕ) → 0 < k → digits base k n ≡ digits base (k - 1) (n / base) ++ (character (n % base) ∷ [])
unfolding digits
digits_more base zero n h = absurd (not-suc-le-zero h)
digits_more base (suc k) n h = rw sub-one

-- ---- one turn of the loops

pub put_turn : (x s : List ℕ) (at i : ℕ) → i < length s → written (set x (at + i) (get_or s i 0)) (at + (i + 1)) (drop (i + 1) s) ≡ written x (at + i) (drop i s)
put_turn x s at i h =
    let n : at + (i + 1) ≡ at + i + 1 = omega arith in
    rw (n, written_first x (at + i) (get_or s i 0) (drop (i + 1) s), drop-cons s i 0 h, add-one)

pub digits_turn : (x : List ℕ) (at base k n : ℕ) → 0 < k
    → written (set x (at + (k - 1)) (character (n % base))) at (digits base (k - 1) (n / base)) ≡ written x at (digits base k n)
digits_turn x at base k n h =
    let l = length_digits base (k - 1) (n / base) in
    let w = written_last x at (character (n % base)) (digits base (k - 1) (n / base)) in
    rw (digits_more base k n h, ← w, l)

pub put_end : (x s : List ℕ) (at i : ℕ) → length s ≤ i → written x at (drop i s) ≡ x
put_end x s at i h = rw (drop_of_length-le s h) (written_none x at)

pub digits_end : (x : List ℕ) (at base k n : ℕ) → k ≤ 0 → written x at (digits base k n) ≡ x
unfolding digits
digits_end x at base zero n h = written_none x at
digits_end x at base (suc k) n h = absurd (not-suc-le-zero h)

-- ---- texts that were put

module _ {x y s : List ℕ} {at r : ℕ} where
  pub same_length_of_puts : Puts x at s y r → length y ≡ length x
  same_length_of_puts p = rw p.bytes (length_written x at s)

  pub within : Puts x at s y r → r ≤ length x → r ≤ length y
  within p h = rw (same_length_of_puts p) h

  pub puts_then : {t z : List ℕ} {q : ℕ} → Puts x at s y r → Puts y r t z q → Puts x at (s ++ t) z q
  puts_then {t} {z} {q} p o = record {
    bytes = o.bytes ∙ rw (p.bytes, p.next) (written_more x at s t);
    next = rw (length-append s t) (omega (arith, p.next, o.next));
  }

pub puts_none : (x : List ℕ) (at : ℕ) → Puts x at [] x at
puts_none x at = record { bytes = sym (written_none x at); next = sym (add-zero at) }

pub puts_digits : (x y : List ℕ) (at base k n r : ℕ) → y ≡ written x at (digits base k n) → r ≡ at + k → Puts x at (digits base k n) y r
puts_digits x y at base k n r b e = record { bytes = b; next = rw (length_digits base k n) e }

pub puts_number : (x y : List ℕ) (at base k n r : ℕ) → Puts (set x at 0x20) (at + 1) (digits base k n) y r → Puts x at (number base k n) y r
unfolding number
puts_number x y at base k n r p = record {
  bytes = p.bytes ∙ written_first x at 0x20 (digits base k n);
  next = omega (arith, p.next);
}

-- an area after a store and a text
pub first_kept : (x : List ℕ) (a b at : ℕ) (s y : List ℕ) (r : ℕ) → Puts (set x a b) at s y r → length y ≡ length x
first_kept x a b at s y r p = same_length_of_puts p ∙ length-set x a b

-- ---- bytes in digits

bytes_more : (s : List ℕ) (i : ℕ) → i < length s → bytes_text (drop i s) ≡ digits 16 2 (get_or s i 0) ++ bytes_text (drop (i + 1) s)
unfolding bytes_text
bytes_more s i h = rw (drop-cons s i 0 h, add-one)

module _ {x : List ℕ} {at : ℕ} (s : List ℕ) (i : ℕ) where
  pub bytes_turn : {y : List ℕ} {r n : ℕ} → i < length s → n ≡ get_or s i 0 → Puts x at (digits 16 2 n) y r
      → (z : List ℕ) (q : ℕ) → Puts y r (bytes_text (drop (i + 1) s)) z q → Puts x at (bytes_text (drop i s)) z q
  bytes_turn h e p z q o = rw (bytes_more s i h, ← e) (puts_then p o)

  pub bytes_none : length s ≤ i → Puts x at (bytes_text (drop i s)) x at
  unfolding bytes_text
  bytes_none h = rw (drop_of_length-le s h) (puts_none x at)
